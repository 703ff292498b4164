use Rattle.std.proofs.Common.{◌≡◌, ◌≤◌, ◌+◌, ◌*◌, ◌++◌, drop, vec_len}
use Rattle.std.specs.Vec.{vec_capacity}
use Rattle.tilt_reading_feed.specs.Machine.{inputs_of}
use Rattle.tilt_reading_feed.specs.Steps.{events_each, last_handed}
use Rattle.tilt_reading_feed.proofs.turning.finish_all.Given as goal

abbrev pub invariant-loop-place : goal.invariant-loop-place
invariant-loop-place l = record {
  events : l.events.items ++ events_each last_handed l.place (drop l.place (inputs_of l.fn.converters))
      ≡ l.fn.events.items ++ events_each last_handed 0 (inputs_of l.fn.converters);
  spare : 4 ≤ vec_capacity l.updates;
  capacity : vec_capacity l.events ≡ vec_capacity l.fn.events;
  len : vec_len l.events ≤ vec_len l.fn.events + 3 * l.place;
}
