use Rattle.std.proofs.Common.{◌≡◌, ◌≤◌, ◌+◌, ◌*◌, ◌++◌, drop, map, take, vec_len}
use Rattle.std.specs.Vec.{vec_capacity}
use Rattle.tilt_reading_feed.specs.Machine.{inputs_of}
use Rattle.tilt_reading_feed.specs.Steps.{events_each, handed, turned}
use Rattle.tilt_reading_feed.proofs.turning.turn_all.Given as goal

abbrev pub invariant-loop-place : goal.invariant-loop-place
invariant-loop-place l = record {
  inputs : inputs_of l.converters
      ≡ map (turned l.fn.turn) (take l.place (inputs_of l.fn.converters)) ++ drop l.place (inputs_of l.fn.converters);
  events : l.events.items ++ events_each (handed l.fn.turn) l.place (drop l.place (inputs_of l.fn.converters))
      ≡ l.fn.events.items ++ events_each (handed l.fn.turn) 0 (inputs_of l.fn.converters);
  spare : 4 ≤ vec_capacity l.updates;
  capacity : vec_capacity l.events ≡ vec_capacity l.fn.events;
  len : vec_len l.events ≤ vec_len l.fn.events + 4 * l.place;
}
