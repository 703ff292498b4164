use Rattle.std.proofs.Common.{◌≡◌, take}
use Rattle.tilt_watermarks.specs.Steps.{held_count}
use Rattle.tilt_watermarks.proofs.lanes.Lanes.of.Given as goal

abbrev pub invariant-loop-input : goal.invariant-loop-input
invariant-loop-input l = record {
  lanes : l.lanes.items ≡ take l.input-index l.inputs;
  count : l.held ≡ held_count (take l.input-index l.inputs);
}
