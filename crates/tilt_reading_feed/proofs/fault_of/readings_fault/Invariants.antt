use Rattle.std.proofs.Common.{◌≡◌, None, drop}
use Rattle.tilt_reading_feed.specs.Machine.{inputs_of}
use Rattle.tilt_reading_feed.specs.Steps.{readings_fault}
use Rattle.tilt_reading_feed.proofs.fault_of.readings_fault.Given as goal

abbrev pub invariant-loop-reading : goal.invariant-loop-reading
invariant-loop-reading l = readings_fault (inputs_of l.fn.converters) l.before (drop l.reading-index l.fn.readings)
    ≡ readings_fault (inputs_of l.fn.converters) None l.fn.readings
