-- What a line of readings does to the feed of its inputs (our own rule). `line_taken` is the definition.
use Rattle.std.specs.Prelude.{ℕ, zero, suc, ℤ, Bool, true, not, if◌then◌else◌, nat_lt, List, [], ◌∷◌, ◌++◌, map, slice_get}
use Rattle.std.specs.Prelude.{Option, Some, None, option_map}
use Rattle.tilt_conventions.specs.Laws.{stepped}
use Rattle.tilt_conventions.specs.Steps.{Kept, last_updates, nothing_kept, turn_fault}
use Rattle.tilt_conventions.specs.declared.options.Options.{Options}
use Rattle.tilt_conventions.specs.declared.turn.Turn.{Turn}
use Rattle.tilt_conventions.specs.declared.turn.Turn.TheVariants.{Reading, KnownUpTo}
use Rattle.tilt_feed.specs.Events.{is_time}
use Rattle.tilt_feed.specs.declared.event.Event.{Event}
use Rattle.tilt_feed.specs.declared.event.Event.TheVariants.{Input, Finish}
use Rattle.tilt_feed.specs.declared.update.Update.{Update}
use Rattle.tilt_reading_feed.specs.declared.fault.FeedFault.{FeedFault}
use Rattle.tilt_reading_feed.specs.declared.fault.FeedFault.TheVariants.{Finished, NoInput, Repeated, NotTaken, OutOfRange}
use Rattle.tilt_reading_lines.specs.Lines.{Said}
use Rattle.tilt_reading_lines.specs.declared.rules.InputReading.{InputReading}

-- what is kept of an input: what its readings mean, and what its converter keeps
pub record InputKept : Type 0 where
  pub options : Options
  pub kept : Kept

-- what is kept of a feed: of each input, in order, and whether the feed is finished
pub record FeedKept : Type 0 where
  pub inputs : List InputKept
  pub finished : Bool

-- what is kept after a line, and the events that it hands on
pub record FeedStep : Type 0 where
  pub kept : FeedKept
  pub events : List Event

-- an input before its first turn
abbrev pub first_kept : Options → InputKept
first_kept options = record { options = options; kept = nothing_kept }

-- a reading of a line, as a turn of its input
abbrev pub turn_of : InputReading → Turn
turn_of reading = Reading (record { tick = reading.tick; value = reading.value })

-- an input after a turn, and the updates that it hands on; a turn that isn't taken changes nothing
abbrev pub turned : Turn → InputKept → InputKept
turned turn input = record { options = input.options; kept = (stepped input.options turn input.kept).kept }

abbrev pub handed : Turn → InputKept → List Update
handed turn input = (stepped input.options turn input.kept).updates

-- the input with a number takes a turn: the inputs after it,
abbrev pub inputs_turned : ℕ → Turn → List InputKept → List InputKept
inputs_turned number turn [] = []
inputs_turned zero turn (input ∷ inputs) = turned turn input ∷ inputs
inputs_turned (suc number) turn (input ∷ inputs) = input ∷ inputs_turned number turn inputs

-- and what it hands on; if there is no such input, nothing
abbrev pub handed_at : ℕ → Turn → List InputKept → List Update
handed_at number turn [] = []
handed_at zero turn (input ∷ inputs) = handed turn input
handed_at (suc number) turn (input ∷ inputs) = handed_at number turn inputs

-- the events of updates of the input with a number
abbrev pub events_at : ℕ → List Update → List Event
events_at number updates = map (Input number) updates

-- readings, one after another: the inputs after them, and their events
abbrev pub inputs_read : List InputReading → List InputKept → List InputKept
inputs_read [] inputs = inputs
inputs_read (reading ∷ readings) inputs = inputs_read readings (inputs_turned reading.input (turn_of reading) inputs)

abbrev pub events_read : List InputReading → List InputKept → List Event
events_read [] inputs = []
events_read (reading ∷ readings) inputs = events_at reading.input (handed_at reading.input (turn_of reading) inputs)
    ++ events_read readings (inputs_turned reading.input (turn_of reading) inputs)

-- the events of all inputs, by the updates of each, if inputs are counted from a number
abbrev pub events_each : (InputKept → List Update) → ℕ → List InputKept → List Event
events_each updates number [] = []
events_each updates number (input ∷ inputs) = events_at number (updates input) ++ events_each updates (suc number) inputs

-- all inputs are known up to a tick, if there is one: the inputs after it, and the events. To an input that is known further already, it
-- says nothing new, and the input takes no turn
abbrev pub inputs_known : Option ℤ → List InputKept → List InputKept
inputs_known None inputs = inputs
inputs_known (Some tick) inputs = map (turned (KnownUpTo tick)) inputs

abbrev pub events_known : Option ℤ → List InputKept → List Event
events_known None inputs = []
events_known (Some tick) inputs = events_each (handed (KnownUpTo tick)) 0 inputs

-- what a line that is taken does: first its readings, and then "known up to"
abbrev pub line_taken : Said → FeedKept → FeedStep
line_taken said kept = record {
  kept = record { inputs = inputs_known said.known (inputs_read said.readings kept.inputs); finished = kept.finished };
  events = events_read said.readings kept.inputs ++ events_known said.known (inputs_read said.readings kept.inputs);
}

-- what an input hands on when nothing more comes
abbrev pub last_handed : InputKept → List Update
last_handed input = last_updates input.options input.kept

-- what the end does
abbrev pub feed_finished : FeedKept → FeedStep
feed_finished kept = record {
  kept = record { inputs = kept.inputs; finished = true };
  events = events_each last_handed 0 kept.inputs ++ Finish ∷ [];
}

-- whether an input comes after another one, if there is one
abbrev pub comes_after : Option ℕ → ℕ → Bool
comes_after None input = true
comes_after (Some before) input = nat_lt before input

-- why the input of a reading doesn't take it, if it doesn't
abbrev pub fault_at : Option InputKept → InputReading → Option FeedFault
fault_at None reading = Some (NoInput reading.input)
fault_at (Some input) reading = option_map (NotTaken reading.input) (turn_fault input.options.ties input.kept (turn_of reading))

-- why a reading isn't taken that comes after one of another input in its line
abbrev pub reading_fault : List InputKept → Option ℕ → InputReading → Option FeedFault
reading_fault inputs before reading =
    if not (comes_after before reading.input) then Some (Repeated reading.input)
    else fault_at (slice_get inputs reading.input) reading

-- the first one of two faults
abbrev pub first_of : Option FeedFault → Option FeedFault → Option FeedFault
first_of None other = other
first_of (Some fault) other = Some fault

-- the first fault of readings, after one of another input. Each has an input of its own, so none changes what another one is judged by
abbrev pub readings_fault : List InputKept → Option ℕ → List InputReading → Option FeedFault
readings_fault inputs before [] = None
readings_fault inputs before (reading ∷ readings) =
    first_of (reading_fault inputs before reading) (readings_fault inputs (Some reading.input) readings)

-- why inputs can't be known up to a tick
abbrev pub known_fault : Option ℤ → Option FeedFault
known_fault None = None
known_fault (Some tick) = if is_time tick then None else Some OutOfRange

-- why a line isn't taken, if it isn't
abbrev pub line_fault : FeedKept → Said → Option FeedFault
line_fault kept said =
    if kept.finished then Some Finished else first_of (readings_fault kept.inputs None said.readings) (known_fault said.known)

-- why the feed can't be finished, if it can't
abbrev pub end_fault : FeedKept → Option FeedFault
end_fault kept = if kept.finished then Some Finished else None
