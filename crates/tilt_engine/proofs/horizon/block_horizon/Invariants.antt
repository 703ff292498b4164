use Rattle.std.proofs.Common.{◌≡◌, drop, map}
use Rattle.tilt_engine.specs.CodeHorizon.{IsNearTimeOrNever, block_horizon, horizon_by}
use Rattle.tilt_engine.proofs.horizon.block_horizon.Given as goal

abbrev pub invariant-loop-number : goal.invariant-loop-number
invariant-loop-number l = (horizon_by l.horizon ≡ block_horizon (map horizon_by l.horizons) (drop l.number l.block)) × IsNearTimeOrNever l.horizon
