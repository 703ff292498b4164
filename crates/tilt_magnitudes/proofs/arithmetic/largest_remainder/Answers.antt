use Rattle.std.proofs.Common.{◌≡◌, ◌∙◌, pos, neg_ℤ, ◌-ℤ◌, to_z, of_z, arith}
use Rattle.std.specs.Int.{w128, int_max}
use Rattle.std.proofs.lemmas.Int.{ints, to_z-of_z}
use Rattle.tilt_magnitudes.proofs.arithmetic.largest_remainder.Goals as goal

pub returns-clause-value : goal.returns-clause-value
returns-clause-value c =
    let a : to_z w128 (of_z w128 (pos 0 -ℤ to_z w128 (of_z w128 c.from.result))) ≡ neg_ℤ c.args.low = omega (arith, ints) in
    let b : to_z w128 (of_z w128 c.from-2.result) ≡ c.args.high = omega (arith, ints) in
    let m : c.max-size.result ≡ int_max (neg_ℤ c.args.low) c.args.high = c.max-size.ensures.value ∙ (λ i. int_max (a i) (b i)) in
    let d : to_z w128 (of_z w128 (to_z w128 (of_z w128 c.max-size.result) -ℤ pos 1)) ≡ c.max-size.result -ℤ pos 1 = omega (arith, ints) in
    to_z-of_z w128 c.max.result (record { sfits = c.max.type_inv }) ∙ c.max.ensures.value ∙ (λ i. int_max (d i) (pos 0))
    ∙ (λ i. int_max (m i -ℤ pos 1) (pos 0))
