use Rattle.std.proofs.Common.{◌≤◌, ◌+◌, ◌*◌, ◌^◌, ◌∙◌, get_or, refl, sym, ap, arith}
use Rattle.std.proofs.lemmas.Bool.Decides.{nat_tests}
use Rattle.std.proofs.lemmas.List.{drop_all}
use Rattle.std.proofs.lemmas.Str.{digit_value_digit}
use Rattle.std.specs.Char.{digit_value}
use Rattle.std.specs.Str.{all_ascii_digits}
use Rattle.std.specs.Str.Parse.{digits_value_after}
use Rattle.tilt_base.proofs.Spelling.{big_on_the_way, all_read}
use Rattle.tilt_base.proofs.number.read_natural.Goals as goal

pub returns-in_err-checked_mul : goal.returns-in_err-checked_mul
returns-in_err-checked_mul c =
    let d = digit_value (get_or c.args.digits.now c.loop-digit.digit-index 0) in
    let big : 2 ^ 64 ≤ c.loop-digit.number * 10 + d = omega (arith, c.in_err-checked_mul.ensures) in
    c.from_residual.ensures ∙ sym (big_on_the_way c.args.digits.now c.loop-digit.digit-index c.loop-digit.number d c.loop-digit-test.true refl c.loop-digit.invariant.value big)

pub returns-in_err-number : goal.returns-in_err-number
returns-in_err-number c =
    let d = digit_value (get_or c.args.digits.now c.loop-digit.digit-index 0) in
    let big : 2 ^ 64 ≤ c.loop-digit.number * 10 + d = omega (arith, c.in_err-number.ensures, c.in_ok-checked_mul.ensures, c.from.ensures, digit_value_digit _ c.if-not-is_ascii_digit.ensures.cases) in
    c.from_residual-in_err-number.ensures ∙ sym (big_on_the_way c.args.digits.now c.loop-digit.digit-index c.loop-digit.number d c.loop-digit-test.true refl c.loop-digit.invariant.value big)

pub returns : goal.returns
returns c =
    let ds = c.args.digits.now in
    let end = drop_all c.loop-digit.digit-index ds c.loop-digit-test.false in
    let value = sym c.loop-digit.invariant.value ∙ ap (digits_value_after 10 c.loop-digit.number) end in
    let digits = sym c.loop-digit.invariant.digits ∙ ap all_ascii_digits end in
    all_read ds c.loop-digit.number (grind (arith, nat_tests, c.if-is_empty.ensures)) c.loop-digit.invariant.fits digits value
