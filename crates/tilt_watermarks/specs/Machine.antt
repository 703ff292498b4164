-- What watermarks keep, as the definition of a step has it (our own rule).
use Rattle.std.specs.Prelude.{◌≡◌, true, Option, Some, None, Result, Ok, Err, ⊤}
use Rattle.tilt_feed.specs.Events.{in_range}
use Rattle.tilt_feed_line.specs.declared.line.Line.{Line}
use Rattle.tilt_feed_line.specs.declared.line.Line.TheVariants as line
use Rattle.tilt_watermarks.specs.Steps.{Kept}
use Rattle.tilt_watermarks.specs.declared.fault.TakeError.{TakeError}
use Rattle.tilt_watermarks.specs.declared.fault.TakeError.TheVariants.{Fault, OutOfMemory}
use Rattle.tilt_watermarks.specs.declared.fault.TakeFault.{TakeFault}
use Rattle.tilt_watermarks.specs.declared.options.Options.{Options}
use Rattle.tilt_watermarks.specs.declared.watermarks.Watermarks.{Watermarks}

-- what is asked of them
abbrev pub options_of : Watermarks → Options
options_of watermarks = watermarks.options

-- what they keep
abbrev pub kept_by : Watermarks → Kept
kept_by watermarks = record {
  inputs = watermarks.lanes.lanes.items;
  finished = watermarks.finished;
  greatest = watermarks.greatest;
  latest = watermarks.latest;
}

-- the result of a call that takes a line is its fault; only for a line that has none may memory be refused
abbrev pub IsTaken : Result (Unit {0}) TakeError → Option TakeFault → Type 0
IsTaken (Ok done) fault = fault ≡ None
IsTaken (Err (Fault found)) fault = fault ≡ Some found
IsTaken (Err OutOfMemory) fault = fault ≡ None

-- all times of an update that a line has are in range
abbrev pub HasTimes : Line → Type 0
HasTimes (line.Update number update) = in_range update ≡ true
HasTimes (line.AllKnownUpTo tick) = ⊤
HasTimes line.Finish = ⊤
