use Rattle.std.proofs.Common.{◌≡◌, ◌+◌, ◌++◌, take, vec_len}
use Rattle.std.specs.Vec.{vec_capacity}
use Rattle.tilt_reading_feed.specs.Steps.{events_at}
use Rattle.tilt_reading_feed.proofs.turning.append_events.Given as goal

abbrev pub invariant-loop-update : goal.invariant-loop-update
invariant-loop-update l = record {
  events : l.events.items ≡ l.fn.events.items ++ events_at l.fn.number (take l.update-index l.fn.updates);
  capacity : vec_capacity l.events ≡ vec_capacity l.fn.events;
  len : vec_len l.events ≡ vec_len l.fn.events + l.update-index;
}
