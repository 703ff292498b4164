use Rattle.std.proofs.Common.{◌≡◌, ◌++◌, map, take, drop}
use Rattle.tilt_watermarks.specs.Steps.{closed}
use Rattle.tilt_watermarks.proofs.lanes.close_each.Given as goal

abbrev pub invariant-loop-lane : goal.invariant-loop-lane
invariant-loop-lane l = l.lanes ≡ map closed (take l.lane-index l.fn.lanes) ++ drop l.lane-index l.fn.lanes
