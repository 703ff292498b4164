use Rattle.std.proofs.Common.{arith}
use Rattle.std.proofs.lemmas.Int.{ints, clamps}
use Rattle.tilt_live.proofs.horizon.clipped.Goals as goal

pub overflow_cast-last : goal.overflow_cast-last
overflow_cast-last c =
    let near = rw c.in-Some.is at c.requires in
    let low = near.0 in
    let high = near.1 in
    omega (arith, ints)

pub returns-in-Some : goal.returns-in-Some
returns-in-Some c =
    let near = rw c.in-Some.is at c.requires in
    let low = near.0 in
    let high = near.1 in
    let least = c.min.ensures.value in
    rw c.in-Some.is (omega (arith, ints, clamps))
