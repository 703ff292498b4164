use Rattle.std.proofs.Common.{rules, ◌∙◌, pos, int_le, w64, ap, sym}
use Rattle.std.proofs.lemmas.Int.{to_z-of_z}
use Rattle.tilt_magnitudes.specs.Interval.{hull, quotient_above, quotient_below}
use Rattle.tilt_magnitudes.proofs.Computed.{first_quotient, third_quotient}
use Rattle.tilt_magnitudes.proofs.arithmetic.quotient.Goals as goal

pub returns-then-b-ge0 : goal.returns-then-b-ge0
returns-then-b-ge0 c =
    let low = ap (λ z. int_le (pos 0) z) (sym (to_z-of_z w64 c.b.inside.low (search rules))) ∙ c.if-b-ge0.true in
    c.quotient_above.ensures ∙ (λ i. quotient_above (c.widen.ensures i) (c.widen-then-b-ge0.ensures i))
    ∙ first_quotient c.args.a c.args.b (rw (← c.b.view_is) low)

pub returns-else-b-le0 : goal.returns-else-b-le0
returns-else-b-le0 c =
    let low = ap (λ z. int_le (pos 0) z) (sym (to_z-of_z w64 c.b.inside.low (search rules))) ∙ c.if-b-ge0.false in
    let high = ap (λ z. int_le z (pos 0)) (sym (to_z-of_z w64 c.b.inside.high (search rules))) ∙ c.if-b-le0.false in
    c.hull.ensures ∙ (λ i. hull (c.quotient_above-else-b-le0.ensures i) (c.quotient_below-else-b-le0.ensures i))
    ∙ (λ i. hull (quotient_above (c.widen-else-b-le0.ensures i) (c.widen-else-b-le0-2.ensures i)) (quotient_below c.args.a c.args.b))
    ∙ third_quotient c.args.a c.args.b (rw (← c.b.view_is) low) (rw (← c.b.view_is) high)
