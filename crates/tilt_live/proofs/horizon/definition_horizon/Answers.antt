use Rattle.std.proofs.Common.{◌+◌, ◌^◌, length, arith}
use Rattle.tilt_live.proofs.Ticks.{within-greater}
use Rattle.tilt_live.specs.Ticks.{drift}
use Rattle.tilt_live.proofs.horizon.definition_horizon.Goals as goal

pub returns-clause-near : goal.returns-clause-near
returns-clause-near c =
    let sources = length c.args.horizons.now in
    let far = drift sources + 2 ^ 63 in
    within-greater (far + 2 ^ 63) (drift (1 + sources)) c.over_horizon.result (omega arith)
    (c.over_horizon.ensures.near (far + 2 ^ 63) (omega arith) (c.grid_horizon.ensures.near far c.body_horizon-body.ensures.near))
