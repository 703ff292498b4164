use Rattle.std.proofs.Common.{arith}
use Rattle.std.proofs.lemmas.Int.{ints, clamps}
use Rattle.tilt_live.proofs.horizon.within_span.Goals as goal

pub returns-else-from-last-clause-near : goal.returns-else-from-last-clause-near
returns-else-from-last-clause-near c =
    λ limit wide near.
    let low = near.0 in
    let high = near.1 in
    let start = c.from-else-from-last.ensures in
    let greater = c.max.ensures.value in
    (omega (arith, ints, clamps), omega (arith, ints, clamps))
