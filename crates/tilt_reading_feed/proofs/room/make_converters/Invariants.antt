use Rattle.std.proofs.Common.{◌≡◌, map, take}
use Rattle.tilt_reading_feed.specs.Machine.{inputs_of}
use Rattle.tilt_reading_feed.specs.Steps.{first_kept}
use Rattle.tilt_reading_feed.proofs.room.make_converters.Given as goal

abbrev pub invariant-loop-each : goal.invariant-loop-each
invariant-loop-each l = inputs_of l.converters.items ≡ map first_kept (take l.each-index l.fn.options)
