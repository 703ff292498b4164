use Rattle.std.proofs.Common.{rules, ◌∙◌, int_div}
use Rattle.std.specs.Int.{w128}
use Rattle.std.proofs.lemmas.Int.{to_z-of_z}
use Rattle.tilt_magnitudes.specs.Interval.{between, hull, around_ends}
use Rattle.tilt_magnitudes.proofs.arithmetic.quotient_above.Goals as goal

pub returns : goal.returns
returns c =
    let al = to_z-of_z w128 c.a.inside.low (search rules) in
    let ah = to_z-of_z w128 c.a.inside.high (search rules) in
    let bl = to_z-of_z w128 c.b.inside.low (search rules) in
    let bh = to_z-of_z w128 c.b.inside.high (search rules) in
    let p = to_z-of_z w128 c.over.result (record { sfits = c.over.type_inv }) ∙ c.over.ensures ∙ (λ i. int_div (al i) (bl i)) in
    let q = to_z-of_z w128 c.over-2.result (record { sfits = c.over-2.type_inv }) ∙ c.over-2.ensures ∙ (λ i. int_div (al i) (bh i)) in
    let r = to_z-of_z w128 c.over-3.result (record { sfits = c.over-3.type_inv }) ∙ c.over-3.ensures ∙ (λ i. int_div (ah i) (bl i)) in
    let s = to_z-of_z w128 c.over-4.result (record { sfits = c.over-4.type_inv }) ∙ c.over-4.ensures ∙ (λ i. int_div (ah i) (bh i)) in
    c.hull.ensures ∙ (λ i. hull (c.between.ensures i) (c.between-2.ensures i)) ∙ (λ i. hull (between (p i) (q i)) (between (r i) (s i)))
    ∙ (λ i. around_ends int_div (c.a.view_is i) (c.b.view_is i)) ∙ (λ i. around_ends int_div c.args.a (c.positive-b.ensures.value i))
