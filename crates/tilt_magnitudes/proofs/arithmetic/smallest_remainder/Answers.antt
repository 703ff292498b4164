use Rattle.std.proofs.Common.{◌≡◌, ◌∙◌, pos, neg_ℤ, ◌-ℤ◌, to_z, of_z, arith}
use Rattle.std.specs.Int.{w128, int_min, int_max}
use Rattle.std.proofs.lemmas.Int.{ints, to_z-of_z}
use Rattle.tilt_magnitudes.proofs.arithmetic.smallest_remainder.Goals as goal

pub returns : goal.returns
returns c =
    let f : to_z w128 (of_z w128 c.from.result) ≡ c.args.low = omega (arith, ints) in
    let g = to_z-of_z w128 c.min.result (record { sfits = c.min.type_inv }) ∙ c.min.ensures.value ∙ (λ i. int_min (f i) (pos 0)) in
    let n : to_z w128 (of_z w128 (pos 0 -ℤ to_z w128 (of_z w128 c.args.most))) ≡ neg_ℤ c.args.most = omega (arith, ints) in
    to_z-of_z w128 c.max.result (record { sfits = c.max.type_inv }) ∙ c.max.ensures.value ∙ (λ i. int_max (g i) (n i))
