use Rattle.std.proofs.Common.{◌≡◌, take}
use Rattle.std.specs.List.{AllByRecursion}
use Rattle.tilt_watermarks.proofs.Resuming.{IsFitting}
use Rattle.tilt_watermarks.proofs.lanes.Lanes.kept.Given as goal

abbrev pub invariant-loop-lane : goal.invariant-loop-lane
invariant-loop-lane l = record {
  inputs : l.inputs.items ≡ take l.lane-index l.self.lanes.items;
  fit : AllByRecursion IsFitting l.inputs.items;
}
