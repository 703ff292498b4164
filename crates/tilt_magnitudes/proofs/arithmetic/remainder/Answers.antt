use Rattle.std.proofs.Common.{rules, ◌∙◌, pos, neg_ℤ, w64}
use Rattle.std.specs.Int.{w128, int_min, int_max}
use Rattle.std.proofs.lemmas.Int.{to_z-of_z}
use Rattle.tilt_magnitudes.specs.Interval.{largest_remainder, remainder}
use Rattle.tilt_magnitudes.proofs.arithmetic.remainder.Goals as goal

pub returns : goal.returns
returns c =
    let al = to_z-of_z w64 c.a.inside.low (search rules) in
    let ah = to_z-of_z w64 c.a.inside.high (search rules) in
    let bl = to_z-of_z w64 c.b.inside.low (search rules) in
    let bh = to_z-of_z w64 c.b.inside.high (search rules) in
    let m = to_z-of_z w128 c.largest_remainder-most.result (record { sfits = c.largest_remainder-most.type_inv }) ∙ c.largest_remainder-most.ensures.value
    ∙ (λ i. largest_remainder (record { low = bl i; high = bh i })) in
    let p = to_z-of_z w128 c.smallest_remainder.result (record { sfits = c.smallest_remainder.type_inv }) ∙ c.smallest_remainder.ensures
    ∙ (λ i. int_max (int_min (al i) (pos 0)) (neg_ℤ (m i))) in
    let q = to_z-of_z w128 c.highest_remainder.result (record { sfits = c.highest_remainder.type_inv }) ∙ c.highest_remainder.ensures
    ∙ (λ i. int_min (int_max (ah i) (pos 0)) (m i)) in
    (λ i. record { low = p i; high = q i }) ∙ (λ i. remainder (c.a.view_is i) (c.b.view_is i))
