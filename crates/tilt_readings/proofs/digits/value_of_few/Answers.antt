use Rattle.std.proofs.Common.{◌≡◌, ◌+◌, ◌*◌, ◌^◌, ◌<◌, ◌≤◌, get_or, drop, ap, ◌∙◌, sym, rules, arith}
use Rattle.std.specs.Char.{digit_value}
use Rattle.std.specs.Str.Parse.{digits_value_after}
use Rattle.tilt_base.proofs.Spelling.{few_digits}
use Rattle.tilt_readings.proofs.DigitLemmas.{digit_fits, digit_is, digit_range, next_digit}
use Rattle.tilt_readings.proofs.digits.value_of_few.Goals as goal

pub overflow_mul-number : goal.overflow_mul-number
overflow_mul-number c =
    let i = c.loop-digit.digit-index in
    let small : c.loop-digit.number < 10 ^ 18 =
    few_digits c.loop-digit.number i 18 (omega (arith, c.loop-digit-test.true, c.requires.few)) c.loop-digit.invariant.small in
    search rules

pub overflow_sub-digit : goal.overflow_sub-digit
overflow_sub-digit c = (digit_range c.args.digits.now c.loop-digit.digit-index c.requires.digits c.loop-digit-test.true).0

pub overflow_add-number : goal.overflow_add-number
overflow_add-number c =
    let i = c.loop-digit.digit-index in
    let small : c.loop-digit.number < 10 ^ 18 =
    few_digits c.loop-digit.number i 18 (omega (arith, c.loop-digit-test.true, c.requires.few)) c.loop-digit.invariant.small in
    let range = digit_range c.args.digits.now i c.requires.digits c.loop-digit-test.true in
    let low : c.from.result ≤ 9 = omega (arith, c.from.ensures, range.0, range.1) in
    search rules

pub loop-digit-preserved : goal.loop-digit-preserved
loop-digit-preserved c =
    let ds = c.args.digits.now in
    let i = c.loop-digit.digit-index in
    let number = c.loop-digit.number in
    let range = digit_range ds i c.requires.digits c.loop-digit-test.true in
    let low : c.from.result ≤ 9 = omega (arith, c.from.ensures, range.0, range.1) in
    let digit : c.from.result ≡ digit_value (get_or ds i 0) =
    c.from.ensures ∙ sym (digit_is ds i c.requires.digits c.loop-digit-test.true) in
    record {
      value =
          ap (λ n. digits_value_after 10 (number * 10 + n) (drop (i + 1) ds)) digit ∙ sym (next_digit ds i number c.loop-digit-test.true)
          ∙ c.loop-digit.invariant.value;
      small = digit_fits number c.from.result i c.loop-digit.invariant.small low;
    }
