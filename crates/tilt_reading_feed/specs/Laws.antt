-- What the laws of feeds of readings say.
use Rattle.std.specs.Prelude.{◌==◌, ℕ, ℤ, false, if◌then◌else◌, List, [], ◌∷◌, ◌++◌, length, map, Option, Some, None, is_none}
use Rattle.std.specs.List.{AllByRecursion}
use Rattle.tilt_conventions.specs.Laws.{HoldsATick}
use Rattle.tilt_conventions.specs.declared.options.Options.{Options}
use Rattle.tilt_conventions.specs.declared.turn.Reading.{Reading}
use Rattle.tilt_conventions.specs.declared.turn.Turn.{Turn}
use Rattle.tilt_conventions.specs.declared.turn.Turn.TheVariants.{KnownUpTo}
use Rattle.tilt_feed.specs.Events.{after_all}
use Rattle.tilt_feed.specs.Feed.{Feed, empty_feed}
use Rattle.tilt_feed.specs.declared.event.Event.{Event}
use Rattle.tilt_feed.specs.declared.event.Event.TheVariants.{Input, Finish}
use Rattle.tilt_feed.specs.declared.update.Update.{Update}
use Rattle.tilt_reading_feed.specs.Steps.{FeedKept, FeedStep, feed_finished, first_kept, line_fault, line_taken, turn_of}
use Rattle.tilt_reading_lines.specs.Lines.{Said}
use Rattle.tilt_reading_lines.specs.declared.rules.InputReading.{InputReading}

-- the readings of each input hold for a tick at least
abbrev pub HoldTicks : List Options → Type 0
HoldTicks options = AllByRecursion (λ o. HoldsATick o.convention) options

-- what is kept of inputs with these options before the first line
abbrev pub nothing_read : List Options → FeedKept
nothing_read options = record { inputs = map first_kept options; finished = false }

-- what is kept after lines, one after another, and the events that they hand on: a line that isn't taken changes nothing
abbrev pub line_stepped : Said → FeedKept → FeedStep
line_stepped said kept = if is_none (line_fault kept said) then line_taken said kept else record { kept = kept; events = [] }

abbrev pub lines_stepped : List Said → FeedKept → FeedStep
lines_stepped [] kept = record { kept = kept; events = [] }
lines_stepped (said ∷ lines) kept = record {
  kept = (lines_stepped lines (line_stepped said kept).kept).kept;
  events = (line_stepped said kept).events ++ (lines_stepped lines (line_stepped said kept).kept).events;
}

-- the same from the start
abbrev pub lines_read : List Options → List Said → FeedStep
lines_read options lines = lines_stepped lines (nothing_read options)

-- of lines, those that are taken
abbrev pub lines_taken_from : List Said → FeedKept → List Said
lines_taken_from [] kept = []
lines_taken_from (said ∷ lines) kept = (if is_none (line_fault kept said) then said ∷ [] else [])
    ++ lines_taken_from lines (line_stepped said kept).kept

abbrev pub taken_lines : List Options → List Said → List Said
taken_lines options lines = lines_taken_from lines (nothing_read options)

-- the events of lines, and those with the end
abbrev pub events_now : List Options → List Said → List Event
events_now options lines = (lines_read options lines).events

abbrev pub events_at_last : List Options → List Said → List Event
events_at_last options lines = events_now options lines ++ (feed_finished (lines_read options lines).kept).events

-- the feed of inputs with these options after events
abbrev pub feed_after : List Options → List Event → Feed
feed_after options events = after_all events (empty_feed (length options))

-- a reading as its input sees it
abbrev pub bare_reading : InputReading → Reading
bare_reading reading = record { tick = reading.tick; value = reading.value }

-- the readings of the input with a number
abbrev pub readings_among : ℕ → List InputReading → List Reading
readings_among number [] = []
readings_among number (reading ∷ readings) =
    (if reading.input == number then bare_reading reading ∷ [] else []) ++ readings_among number readings

-- the same of lines
abbrev pub readings_at : ℕ → List Said → List Reading
readings_at number [] = []
readings_at number (said ∷ lines) = readings_among number said.readings ++ readings_at number lines

-- the turns of the input with a number: its readings in a line,
abbrev pub turns_among : ℕ → List InputReading → List Turn
turns_among number [] = []
turns_among number (reading ∷ readings) =
    (if reading.input == number then turn_of reading ∷ [] else []) ++ turns_among number readings

-- "known up to" a tick, if there is one,
abbrev pub known_turns : Option ℤ → List Turn
known_turns None = []
known_turns (Some tick) = KnownUpTo tick ∷ []

-- and all that lines say of it
abbrev pub turns_at : ℕ → List Said → List Turn
turns_at number [] = []
turns_at number (said ∷ lines) = turns_among number said.readings ++ known_turns said.known ++ turns_at number lines

-- the updates of the input with a number among events
abbrev pub updates_of : ℕ → List Event → List Update
updates_of number [] = []
updates_of number (Input input update ∷ events) = (if input == number then update ∷ [] else []) ++ updates_of number events
updates_of number (Finish ∷ events) = updates_of number events
