use Rattle.std.proofs.Common.{rules, ◌∙◌, ◌*ℤ◌, w64}
use Rattle.std.specs.Int.{w128}
use Rattle.std.proofs.lemmas.Int.{to_z-of_z}
use Rattle.tilt_magnitudes.specs.Interval.{between, hull}
use Rattle.tilt_magnitudes.proofs.arithmetic.product.Goals as goal

pub returns : goal.returns
returns c =
    let al = to_z-of_z w128 c.a.inside.low (search rules) in
    let ah = to_z-of_z w128 c.a.inside.high (search rules) in
    let bl = to_z-of_z w64 c.b.inside.low (search rules) in
    let bh = to_z-of_z w64 c.b.inside.high (search rules) in
    let p = to_z-of_z w128 c.times.result (record { sfits = c.times.type_inv }) ∙ c.times.ensures ∙ (λ i. al i *ℤ bl i) in
    let q = to_z-of_z w128 c.times-2.result (record { sfits = c.times-2.type_inv }) ∙ c.times-2.ensures ∙ (λ i. al i *ℤ bh i) in
    let r = to_z-of_z w128 c.times-3.result (record { sfits = c.times-3.type_inv }) ∙ c.times-3.ensures ∙ (λ i. ah i *ℤ bl i) in
    let s = to_z-of_z w128 c.times-4.result (record { sfits = c.times-4.type_inv }) ∙ c.times-4.ensures ∙ (λ i. ah i *ℤ bh i) in
    rw (← c.a.view_is, ← c.b.view_is)
    (c.hull.ensures ∙ (λ i. hull (c.between.ensures i) (c.between-2.ensures i)) ∙ (λ i. hull (between (p i) (q i)) (between (r i) (s i))))
