use Rattle.std.proofs.Common.{◌≡◌, ◌≤◌, ◌+◌, ◌*◌, ◌++◌, drop, vec_len}
use Rattle.std.specs.Vec.{vec_capacity}
use Rattle.tilt_reading_feed.specs.Machine.{inputs_of}
use Rattle.tilt_reading_feed.specs.Steps.{events_read, inputs_read}
use Rattle.tilt_reading_feed.proofs.turning.read_each.Given as goal

abbrev pub invariant-loop-reading : goal.invariant-loop-reading
invariant-loop-reading l = record {
  inputs : inputs_read (drop l.reading-index l.fn.readings) (inputs_of l.converters) ≡ inputs_read l.fn.readings (inputs_of l.fn.converters);
  events : l.events.items ++ events_read (drop l.reading-index l.fn.readings) (inputs_of l.converters)
      ≡ l.fn.events.items ++ events_read l.fn.readings (inputs_of l.fn.converters);
  spare : 4 ≤ vec_capacity l.updates;
  capacity : vec_capacity l.events ≡ vec_capacity l.fn.events;
  len : vec_len l.events ≤ vec_len l.fn.events + 4 * l.reading-index;
}
