use Rattle.std.proofs.Common.{◌≡◌, ◌+◌, ◌≤◌, ◌++◌, map, take, drop, vec_len}
use Rattle.std.specs.Vec.{vec_capacity}
use Rattle.tilt_watermarks.specs.Steps.{held_count, raised, raising}
use Rattle.tilt_watermarks.proofs.lanes.raise_each.Given as goal

abbrev pub invariant-loop-lane : goal.invariant-loop-lane
invariant-loop-lane l = record {
  number : l.number ≡ l.lane-index;
  lanes : l.lanes ≡ map (raised l.fn.end) (take l.lane-index l.fn.lanes) ++ drop l.lane-index l.fn.lanes;
  count : l.held ≡ held_count l.lanes;
  fewer : l.held ≤ l.fn.held;
  events : l.events.items ++ raising l.lane-index l.fn.end (drop l.lane-index l.fn.lanes) ≡ l.fn.events.items ++ raising 0 l.fn.end l.fn.lanes;
  capacity : vec_capacity l.events ≡ vec_capacity l.fn.events;
  len : vec_len l.events + l.held ≤ vec_len l.fn.events + l.fn.held + l.lane-index;
}
