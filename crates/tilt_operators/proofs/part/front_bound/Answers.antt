use Rattle.std.proofs.Common.{◌≡◌, pos, neg_ℤ, ◌-ℤ◌, to_z, of_z, w64, arith}
use Rattle.std.proofs.lemmas.Int.{ints}
use Rattle.tilt_operators.proofs.Spans.{minus_bound, plain_bound}
use Rattle.tilt_operators.proofs.part.front_bound.Goals as goal

pub returns-in-Some-clause-front : goal.returns-in-Some-clause-front
returns-in-Some-clause-front c =
    let n = c.in_ok-number.number in
    let above = (c.in_ok-number.ensures.sound (c.in-Some.ensures.sound c.requires)).0 in
    let negated : to_z w64 (of_z w64 (pos 0 -ℤ to_z w64 (of_z w64 n))) ≡ neg_ℤ n = grind (arith, ints, above) in
    rw negated (minus_bound _ _ _ n c.in-Some.ensures.front c.in_ok-number.ensures.front)

pub returns-clause-front : goal.returns-clause-front
returns-clause-front c =
    let fits : to_z w64 (of_z w64 c.in_ok-number-2.number) ≡ c.in_ok-number-2.number = omega (arith, ints) in
    rw fits (plain_bound _ _ _ c.in_ok-number-2.ensures.front)
