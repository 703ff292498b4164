use Rattle.std.proofs.Common.{◌≡◌, ◌+◌, ◌^◌, ◌<◌, length, take, get_or, true, add-one, refl, sym, subst, arith, rules}
use Rattle.std.proofs.lemmas.Int.Digits.{digits_value_more}
use Rattle.std.proofs.lemmas.List.{take_rest}
use Rattle.std.proofs.lemmas.Str.{digit_value_digit}
use Rattle.std.specs.Char.{digit_value, is_ascii_digit}
use Rattle.std.specs.Str.{all_ascii_digits}
use Rattle.std.specs.Str.Parse.{digits_value}
use Rattle.tilt_base.proofs.Spelling.{few_digits}
use Rattle.tilt_feed_line.proofs.AtOnce.{digit_fits, digits_found, digits_more}
use Rattle.tilt_feed_line.proofs.quick.digits_before.Goals as goal

pub returns-then-not-is_ascii_digit-clause-value : goal.returns-then-not-is_ascii_digit-clause-value
returns-then-not-is_ascii_digit-clause-value c =
    let bytes = c.args.bytes.now in
    let at = c.loop-at.at in
    digits_found bytes _ at c.loop-at.number (grind arith) (grind arith) (grind arith) c.loop-at.invariant.digits c.loop-at.invariant.value
    (rw (take_rest bytes (at + 1), add-one) refl)

pub returns-then-not-is_ascii_digit-clause-small : goal.returns-then-not-is_ascii_digit-clause-small
returns-then-not-is_ascii_digit-clause-small c =
    omega (arith, few_digits c.loop-at.number c.loop-at.at 18 (omega (arith, c.min-at-end.ensures)) c.loop-at.invariant.small)

pub returns-clause-value : goal.returns-clause-value
returns-clause-value c =
    let bytes = c.args.bytes.now in
    let is : c.loop-at.at ≡ 19 = omega (arith, c.min-at-end.ensures, c.loop-at.auto.at-end, c.loop-at-test.false, c.if-bytes-le-MOST.false) in
    let comma : get_or bytes 19 0 ≡ 44 = grind arith in
    digits_found bytes _ 19 c.loop-at.number (omega arith) (omega (arith, c.if-bytes-le-MOST.false)) comma
    (subst (λ at. all_ascii_digits (take at bytes) ≡ true) is c.loop-at.invariant.digits)
    (subst (λ at. digits_value 10 (take at bytes) ≡ c.loop-at.number) is c.loop-at.invariant.value) (take_rest bytes 20)

pub returns-clause-small : goal.returns-clause-small
returns-clause-small c = omega (arith, c.if-number-ge-LIMIT.false)

pub overflow_mul-number : goal.overflow_mul-number
overflow_mul-number c =
    let small : c.loop-at.number < 10 ^ 18 =
    few_digits c.loop-at.number c.loop-at.at 18 (omega (arith, c.min-at-end.ensures)) c.loop-at.invariant.small in
    search rules

pub overflow_add-number : goal.overflow_add-number
overflow_add-number c =
    let small : c.loop-at.number < 10 ^ 18 =
    few_digits c.loop-at.number c.loop-at.at 18 (omega (arith, c.min-at-end.ensures)) c.loop-at.invariant.small in
    search rules

pub loop-at-preserved : goal.loop-at-preserved
loop-at-preserved c =
    let bytes = c.args.bytes.now in
    let at = c.loop-at.at in
    let cases = c.if-not-is_ascii_digit.ensures.cases in
    let here : is_ascii_digit (get_or bytes at 0) ≡ true = sym c.if-not-is_ascii_digit.ensures.value in
    let below : at < length bytes = grind arith in
    let digit : c.from.result ≡ digit_value (get_or bytes at 0) = omega (arith, c.from.ensures, digit_value_digit _ cases) in
    record {
      digits = rw add-one (digits_more bytes at below here c.loop-at.invariant.digits);
      value = omega (arith, digits_value_more 10 bytes at below, c.loop-at.invariant.value, digit);
      small = digit_fits c.loop-at.number c.from.result at c.loop-at.invariant.small (omega (arith, c.from.ensures, cases));
    }
