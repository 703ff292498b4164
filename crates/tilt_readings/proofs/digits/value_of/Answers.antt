use Rattle.std.proofs.Common.{◌≡◌, ◌+◌, ◌*◌, get_or, drop, ap, ◌∙◌, sym, arith}
use Rattle.std.specs.Char.{digit_value}
use Rattle.std.specs.Str.Parse.{digits_value_after}
use Rattle.tilt_readings.proofs.DigitLemmas.{digit_is, digit_range, next_digit, read_so_far}
use Rattle.tilt_readings.proofs.digits.value_of.Goals as goal

pub returns-in_err-checked_mul : goal.returns-in_err-checked_mul
returns-in_err-checked_mul c =
    let low = read_so_far c.args.digits.now c.loop-digit.digit-index c.loop-digit.number c.loop-digit-test.true c.loop-digit.invariant in
    rw c.from_residual.ensures (omega (arith, c.in_err-checked_mul.ensures, low))

pub overflow_sub-digit : goal.overflow_sub-digit
overflow_sub-digit c = (digit_range c.args.digits.now c.loop-digit.digit-index c.requires c.loop-digit-test.true).0

pub returns-in_err-number : goal.returns-in_err-number
returns-in_err-number c =
    let low = read_so_far c.args.digits.now c.loop-digit.digit-index c.loop-digit.number c.loop-digit-test.true c.loop-digit.invariant in
    let digit = digit_is c.args.digits.now c.loop-digit.digit-index c.requires c.loop-digit-test.true in
    rw c.from_residual-in_err-number.ensures (omega (arith, c.in_err-number.ensures, c.in_ok-checked_mul.ensures, c.from-in-loop-digit.ensures, digit, low))

pub loop-digit-preserved : goal.loop-digit-preserved
loop-digit-preserved c =
    let ds = c.args.digits.now in
    let i = c.loop-digit.digit-index in
    let digit = digit_is ds i c.requires c.loop-digit-test.true in
    let same : c.in_ok-number.number ≡ c.loop-digit.number * 10 + digit_value (get_or ds i 0) =
    omega (arith, c.in_ok-number.ensures, c.in_ok-checked_mul.ensures, c.from-in-loop-digit.ensures, digit) in
    ap (λ n. digits_value_after 10 n (drop (i + 1) ds)) same ∙ sym (next_digit ds i c.loop-digit.number c.loop-digit-test.true) ∙ c.loop-digit.invariant
