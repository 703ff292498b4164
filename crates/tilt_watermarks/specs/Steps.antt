-- What watermarks do with the lines of a live feed (our own rule). `taken` is the definition.
use Rattle.std.specs.Prelude.{ℕ, zero, suc, ◌+◌, ℤ, Bool, true, false, not, if◌then◌else◌, int_lt}
use Rattle.std.specs.Prelude.{List, [], ◌∷◌, ◌++◌, length, map, replicate, Option, Some, None, option_map}
use Rattle.std.specs.Int.{int_max}
use Rattle.tilt_feed.specs.Events.{is_time, update_fault}
use Rattle.tilt_feed.specs.Feed.{unknown_input}
use Rattle.tilt_feed.specs.declared.edge.Edge.{Edge}
use Rattle.tilt_feed.specs.declared.event.Event.{Event}
use Rattle.tilt_feed.specs.declared.event.Event.TheVariants as event
use Rattle.tilt_feed.specs.declared.fault.EventFault.{EventFault}
use Rattle.tilt_feed.specs.declared.fault.EventFault.TheVariants.{Finished, OutOfRange}
use Rattle.tilt_feed.specs.declared.update.Update.{Update}
use Rattle.tilt_feed_line.specs.declared.line.Line.{Line}
use Rattle.tilt_feed_line.specs.declared.line.Line.TheVariants as line
use Rattle.tilt_watermarks.specs.Held.{Waiting, bare, entered, fits, given_by, known, less, start_of, turned, with_update}
use Rattle.tilt_watermarks.specs.declared.fault.TakeFault.{TakeFault}
use Rattle.tilt_watermarks.specs.declared.fault.TakeFault.TheVariants.{NotAllowed, Overlap, Ahead}
use Rattle.tilt_watermarks.specs.declared.options.Options.{Options}

-- what is kept: of each input; whether the feed is finished; and the largest watermark that lines have given to any input, if they have
-- given one. The last part is the same if the lateness isn't taken off
pub record Kept : Type 0 where
  pub inputs : List Waiting
  pub finished : Bool
  pub greatest : Option ℤ
  pub latest : Option ℤ

-- what is kept after a line, and the events that it hands on
pub record Step : Type 0 where
  pub kept : Kept
  pub events : List Event

-- an input of which nothing is known
abbrev pub unknown : Waiting
unknown = record { edge = unknown_input.edge; held = [] }

-- what is kept of so many inputs before the first line
abbrev pub nothing_kept : ℕ → Kept
nothing_kept inputs = record { inputs = replicate inputs unknown; finished = false; greatest = None; latest = None }

-- the input with a number, or an unknown one if there is none
abbrev pub input_at : List Waiting → ℕ → Waiting
input_at [] number = unknown
input_at (input ∷ inputs) zero = input
input_at (input ∷ inputs) (suc number) = input_at inputs number

-- how many updates are held
abbrev pub held_count : List Waiting → ℕ
held_count [] = 0
held_count (input ∷ inputs) = length input.held + held_count inputs

-- the edge by which an update is judged: under lateness an open row counts for nothing
abbrev pub judged_by : Option ℕ → Edge → Edge
judged_by None edge = edge
judged_by (Some ticks) edge = bare edge.watermark

-- the first rule of feeds that a line breaks; "known up to" for all inputs may be below the watermarks of some or all
abbrev pub rule_broken : Option ℕ → Bool → List Waiting → Line → Option EventFault
rule_broken lateness finished inputs (line.Update number update) =
    update_fault finished (judged_by lateness (input_at inputs number).edge) update
rule_broken lateness finished inputs (line.AllKnownUpTo tick) =
    if finished then Some Finished else if is_time tick then None else Some OutOfRange
rule_broken lateness finished inputs line.Finish = if finished then Some Finished else None

-- whether an update doesn't fit among those that its input holds
abbrev pub overlaps : Option ℕ → Waiting → Update → Bool
overlaps None input update = false
overlaps (Some ticks) input update = not (fits input.edge.watermark (with_update update input.held))

-- the same of the input with a number; one that isn't there holds nothing
abbrev pub overlaps_at : Option ℕ → List Waiting → ℕ → Update → Bool
overlaps_at lateness [] number update = false
overlaps_at lateness (input ∷ inputs) zero update = overlaps lateness input update
overlaps_at lateness (input ∷ inputs) (suc number) update = overlaps_at lateness inputs number update

-- the same of a line
abbrev pub is_overlap : Option ℕ → List Waiting → Line → Bool
is_overlap lateness inputs (line.Update number update) = overlaps_at lateness inputs number update
is_overlap lateness inputs (line.AllKnownUpTo tick) = false
is_overlap lateness inputs line.Finish = false

-- whether a start is above the latest watermark by more than so many ticks
abbrev pub is_far : Option ℕ → Option ℤ → ℤ → Bool
is_far None latest start = false
is_far (Some ticks) None start = false
is_far (Some ticks) (Some latest) start = int_lt latest (less ticks start)

-- with `ahead`: whether a line starts too far above the latest watermark; the first line never does
abbrev pub is_ahead : Option ℕ → Option ℤ → Line → Bool
is_ahead ahead latest (line.Update number update) = is_far ahead latest (start_of update)
is_ahead ahead latest (line.AllKnownUpTo tick) = is_far ahead latest tick
is_ahead ahead latest line.Finish = false

-- a broken rule comes first, and then an overlap
abbrev pub fault_by : Option EventFault → Bool → Bool → Option TakeFault
fault_by (Some rule) overlap far = Some (NotAllowed rule)
fault_by None overlap far = if overlap then Some Overlap else if far then Some Ahead else None

-- why a line isn't taken, if it isn't
abbrev pub line_fault : Options → Kept → Line → Option TakeFault
line_fault options kept line = fault_by (rule_broken options.lateness kept.finished kept.inputs line)
    (is_overlap options.lateness kept.inputs line) (is_ahead options.ahead kept.latest line)

-- the events of updates of the input with a number
abbrev pub events_at : ℕ → List Update → List Event
events_at number updates = map (event.Input number) updates

-- the input with a number takes an update: the inputs after it,
abbrev pub inputs_entered : Option ℕ → ℕ → Update → List Waiting → List Waiting
inputs_entered lateness number update [] = []
inputs_entered lateness zero update (input ∷ inputs) = turned (entered lateness update input) input.edge ∷ inputs
inputs_entered lateness (suc number) update (input ∷ inputs) = input ∷ inputs_entered lateness number update inputs

-- and what it hands on; if there is no such input, nothing is held
abbrev pub handed_at : Option ℕ → ℕ → Update → List Waiting → List Update
handed_at lateness number update [] = update ∷ []
handed_at lateness zero update (input ∷ inputs) = (entered lateness update input).handed
handed_at lateness (suc number) update (input ∷ inputs) = handed_at lateness number update inputs

-- all inputs become known up to an end: an input after it,
abbrev pub raised : Option ℤ → Waiting → Waiting
raised end input = turned (known end input) input.edge

-- and the events of all, if inputs are counted from a number
abbrev pub raising : ℕ → Option ℤ → List Waiting → List Event
raising number end [] = []
raising number end (input ∷ inputs) = events_at number (known end input).handed ++ raising (suc number) end inputs

-- an input when nothing more comes
abbrev pub closed : Waiting → Waiting
closed input = record { edge = bare input.edge.watermark; held = input.held }

-- The inputs after a line:
abbrev pub inputs_after : Option ℕ → Line → List Waiting → List Waiting
inputs_after lateness (line.Update number update) inputs = inputs_entered lateness number update inputs
inputs_after lateness (line.AllKnownUpTo tick) inputs = map (raised (Some tick)) inputs
inputs_after lateness line.Finish inputs = map closed (map (raised None) inputs)

-- and its events; the end of the feed hands on all that is held, in the order of the inputs
abbrev pub events_of : Option ℕ → Line → List Waiting → List Event
events_of lateness (line.Update number update) inputs = events_at number (handed_at lateness number update inputs)
events_of lateness (line.AllKnownUpTo tick) inputs = raising 0 (Some tick) inputs
events_of lateness line.Finish inputs = raising 0 None inputs ++ event.Finish ∷ []

-- whether a line ends the feed
abbrev pub is_end : Line → Bool
is_end (line.Update number update) = false
is_end (line.AllKnownUpTo tick) = false
is_end line.Finish = true

-- the greater one of a watermark and the greatest before it
abbrev pub greater : Option ℤ → ℤ → ℤ
greater None tick = tick
greater (Some greatest) tick = int_max greatest tick

-- the greatest watermark after a line: an update gives a watermark to its input, and "known up to" to all inputs
abbrev pub greatest_after : Option ℕ → Line → Option ℤ → Option ℤ
greatest_after lateness (line.Update number update) greatest = Some (greater greatest (given_by lateness update))
greatest_after lateness (line.AllKnownUpTo tick) greatest = Some (greater greatest tick)
greatest_after lateness line.Finish greatest = greatest

-- what a line does, `idle` aside
abbrev pub followed : Option ℕ → Line → Kept → Step
followed lateness line kept = record {
  kept = record {
    inputs = inputs_after lateness line kept.inputs;
    finished = is_end line;
    greatest = greatest_after lateness line kept.greatest;
    latest = greatest_after None line kept.latest;
  };
  events = events_of lateness line kept.inputs;
}

-- with `idle N`, up to where each input is known at least: `M - N`, for the greatest watermark `M`, unless the feed is finished
abbrev pub idle_tick : Option ℕ → Bool → Option ℤ → Option ℤ
idle_tick None finished greatest = None
idle_tick (Some ticks) true greatest = None
idle_tick (Some ticks) false greatest = option_map (less ticks) greatest

-- all inputs become known up to a tick at least, if there is one
abbrev pub raise : Option ℤ → Kept → Step
raise None kept = record { kept = kept; events = [] }
raise (Some tick) kept = record {
  kept = record {
    inputs = map (raised (Some tick)) kept.inputs;
    finished = kept.finished;
    greatest = kept.greatest;
    latest = kept.latest;
  };
  events = raising 0 (Some tick) kept.inputs;
}

-- one step after another
abbrev pub followed_by : (Kept → Step) → Step → Step
followed_by next first = record { kept = (next first.kept).kept; events = first.events ++ (next first.kept).events }

-- what a line that is taken does: first its own events, and then each input becomes known up to where `idle` says
abbrev pub taken : Options → Line → Kept → Step
taken options line kept =
    followed_by (λ later. raise (idle_tick options.idle later.finished later.greatest) later) (followed options.lateness line kept)
