use Rattle.std.proofs.Common.{arith}
use Rattle.std.proofs.lemmas.Int.{ints}
use Rattle.tilt_live.proofs.horizon.earlier_by.Goals as goal

pub returns-clause-near : goal.returns-clause-near
returns-clause-near c =
    λ limit within.
    let far = rw c.in_ok-horizon.was at c.requires in
    let far_low = far.0 in
    let far_high = far.1 in
    let near = rw c.in_ok-horizon.was at within in
    let low = near.0 in
    let high = near.1 in
    let offset = c.from.ensures in
    (omega (arith, ints), omega (arith, ints))
