use Rattle.std.proofs.Common.{◌≡◌, take}
use Rattle.tilt_reading_feed.specs.Kept.{inputs_with}
use Rattle.tilt_reading_feed.specs.Machine.{inputs_of}
use Rattle.tilt_reading_feed.proofs.room.resume_converters.Given as goal

abbrev pub invariant-loop-input : goal.invariant-loop-input
invariant-loop-input l = inputs_of l.converters.items ≡ inputs_with (take l.input l.fn.options) (take l.input l.fn.inputs)
