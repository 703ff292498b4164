-- What a feed of readings keeps, as the definition of a step has it (our own rule).
use Rattle.std.specs.Prelude.{◌≡◌, List, map, Option, Some, None, Result, Ok, Err}
use Rattle.tilt_conventions.specs.Machine.{kept_by, options_of}
use Rattle.tilt_conventions.specs.declared.converter.Converter.{Converter}
use Rattle.tilt_reading_feed.specs.Steps.{FeedKept, InputKept}
use Rattle.tilt_reading_feed.specs.declared.fault.FeedFault.{FeedFault}
use Rattle.tilt_reading_feed.specs.declared.fault.TakeError.{TakeError}
use Rattle.tilt_reading_feed.specs.declared.fault.TakeError.TheVariants.{Fault, OutOfMemory}
use Rattle.tilt_reading_feed.specs.declared.reading_feed.ReadingFeed.{ReadingFeed}

-- an input, by its converter
abbrev pub input_of : Converter → InputKept
input_of converter = record { options = options_of converter; kept = kept_by converter }

abbrev pub inputs_of : List Converter → List InputKept
inputs_of converters = map input_of converters

-- what a feed keeps
abbrev pub feed_kept : ReadingFeed → FeedKept
feed_kept feed = record { inputs = inputs_of feed.converters.items; finished = feed.finished }

-- the result of a call that takes a line is its fault; only for a line that has none may memory be refused
abbrev pub IsTaken : Result (Unit {0}) TakeError → Option FeedFault → Type 0
IsTaken (Ok done) fault = fault ≡ None
IsTaken (Err (Fault found)) fault = fault ≡ Some found
IsTaken (Err OutOfMemory) fault = fault ≡ None
