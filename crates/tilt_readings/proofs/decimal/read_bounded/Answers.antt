use Rattle.std.proofs.Common.{◌+◌, ◌*◌, Ok, ap, sym, ◌∙◌, arith, if◌then◌else◌, neg_ℤ, FitsSigned, rules}
use Rattle.std.specs.Int.{w128}
use Rattle.std.proofs.lemmas.Int.{ints, to_z-of_z}
use Rattle.std.specs.Str.Parse.{digits_value}
use Rattle.tilt_readings.specs.Decimal.{bounded}
use Rattle.tilt_readings.proofs.ScaleLemmas.{joined_digits, number_of, times_not_whole, times_whole, too_large}
use Rattle.tilt_readings.proofs.decimal.read_bounded.Goals as goal

pub returns-in_default-carry_of : goal.returns-in_default-carry_of
returns-in_default-carry_of c =
    let e = c.in-Some.ensures in
    let s = c.split_sign-negative in
    let w = c.in-Some.whole.now in
    let f = c.in-Some.fraction.now in
    let number = number_of c.args.mark c.args.scale c.args.text.now s.result.1.now w f s.result.0 s.ensures.sign s.ensures.rest e.0 (joined_digits w f e.1 e.2 e.3) in
    sym (ap (bounded c.args.low c.args.high) (number ∙ times_not_whole s.result.0 w f c.args.scale c.in_default-carry_of.ensures))

pub returns-in_default-total_of : goal.returns-in_default-total_of
returns-in_default-total_of c =
    let e = c.in-Some.ensures in
    let s = c.split_sign-negative in
    let w = c.in-Some.whole.now in
    let f = c.in-Some.fraction.now in
    let number = number_of c.args.mark c.args.scale c.args.text.now s.result.1.now w f s.result.0 s.ensures.sign s.ensures.rest e.0 (joined_digits w f e.1 e.2 e.3) in
    let whole = times_whole s.result.0 w f c.args.scale c.in-Some-carry_of.carried c.in-Some-carry_of.ensures.0 in
    let size = digits_value 10 w * c.args.scale + c.in-Some-carry_of.carried in
    sym (ap (bounded c.args.low c.args.high) (number ∙ whole)
    ∙ too_large s.result.0 size c.args.low c.args.high c.in_default-total_of.ensures c.requires.low (omega (arith, ints)))

pub returns : goal.returns
returns c =
    let e = c.in-Some.ensures in
    let s = c.split_sign-negative in
    let w = c.in-Some.whole.now in
    let f = c.in-Some.fraction.now in
    let number = number_of c.args.mark c.args.scale c.args.text.now s.result.1.now w f s.result.0 s.ensures.sign s.ensures.rest e.0 (joined_digits w f e.1 e.2 e.3) in
    let whole = times_whole s.result.0 w f c.args.scale c.in-Some-carry_of.carried c.in-Some-carry_of.ensures.0 in
    let fits : FitsSigned w128 c.in-Some-total_of.size = search rules in
    let sign = rw (to_z-of_z w128 c.in-Some-total_of.size fits) at c.with_sign.ensures in
    let number_fits : FitsSigned w128 c.with_sign.result = search rules in
    let same_low = to_z-of_z w128 c.args.low c.ranges.low in
    let same_high = to_z-of_z w128 c.args.high c.ranges.high in
    let same_number = to_z-of_z w128 c.with_sign.result number_fits in
    c.within.ensures
    ∙ (λ i. bounded (same_low i) (same_high i) (Ok (same_number i)))
    ∙ ap (λ z. bounded c.args.low c.args.high (Ok z)) (sign ∙ ap (λ z. if s.result.0 then neg_ℤ z else z) c.in-Some-total_of.ensures)
    ∙ sym (ap (bounded c.args.low c.args.high) (number ∙ whole))
