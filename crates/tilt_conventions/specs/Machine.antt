-- What a converter keeps, as the definition of a step has it (our own rule).
use Rattle.std.specs.Prelude.{◌≡◌, Option, Some, None, Result, Ok, Err}
use Rattle.tilt_conventions.specs.Steps.{Kept}
use Rattle.tilt_conventions.specs.declared.converter.Converter.{Converter}
use Rattle.tilt_conventions.specs.declared.fault.TakeError.{TakeError}
use Rattle.tilt_conventions.specs.declared.fault.TakeError.TheVariants.{Fault, OutOfMemory}
use Rattle.tilt_conventions.specs.declared.fault.TurnFault.{TurnFault}
use Rattle.tilt_conventions.specs.declared.options.Options.{Options}

-- what its readings mean
abbrev pub options_of : Converter → Options
options_of converter = converter.options

-- what it keeps
abbrev pub kept_by : Converter → Kept
kept_by converter = record {
  edge = converter.edge;
  mark = converter.mark;
  latest = converter.latest;
  skipped = converter.skipped;
}

-- the result of a call that takes a turn is its fault; only for a turn that has none may memory be refused
abbrev pub IsTaken : Result (Unit {0}) TakeError → Option TurnFault → Type 0
IsTaken (Ok done) fault = fault ≡ None
IsTaken (Err (Fault found)) fault = fault ≡ Some found
IsTaken (Err OutOfMemory) fault = fault ≡ None
