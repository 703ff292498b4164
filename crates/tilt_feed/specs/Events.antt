-- The events of a feed: which are allowed, and what they change (our own rule).
use Rattle.std.specs.Prelude.{ℕ, zero, suc, ℤ, pos, neg_ℤ, ◌+ℤ◌, Bool, true, false, ◌&&◌, not, if◌then◌else◌, int_lt, int_le}
use Rattle.std.specs.Prelude.{List, [], ◌∷◌, ◌++◌, map, Option, Some, None, is_none}
use Rattle.std.specs.Int.{int_min}
use Rattle.std.specs.Ordering.{int_eq}
use Rattle.tilt_base.specs.declared.limits.TheConstants.{T}
use Rattle.tilt_feed.specs.Feed.{InputFeed, Feed, closed_at, rows_now, unknown_input}
use Rattle.tilt_feed.specs.declared.edge.Edge.{Edge}
use Rattle.tilt_feed.specs.declared.event.Event.{Event}
use Rattle.tilt_feed.specs.declared.event.Event.TheVariants.{Input, Finish}
use Rattle.tilt_feed.specs.declared.fault.EventFault.{EventFault}
use Rattle.tilt_feed.specs.declared.fault.EventFault.TheVariants.{Finished, OutOfRange, Late, NoTick}
use Rattle.tilt_feed.specs.declared.open_row.OpenRow.{OpenRow}
use Rattle.tilt_feed.specs.declared.update.Update.{Update}
use Rattle.tilt_feed.specs.declared.update.Update.TheVariants.{Row, Value, NoValue, KnownUpTo}
use Rattle.tilt_stream.specs.Snap.{Snapshot}

-- whether a time is within `-T..T`
abbrev pub is_time : ℤ → Bool
is_time tick = int_le (neg_ℤ T) tick && int_le tick T

-- whether all times of an update are within it
abbrev pub in_range : Update → Bool
in_range (Row start end value) = is_time start && is_time end
in_range (Value start value) = is_time start
in_range (NoValue start) = is_time start
in_range (KnownUpTo watermark) = is_time watermark

-- whether a row has the start and the value of the open row
abbrev pub continues : Option OpenRow → ℤ → Option ℤ → Bool
continues None start value = false
continues (Some row) start None = false
continues (Some row) start (Some value) = int_eq row.start start && int_eq row.value value

-- the tick that isn't below the watermark unless an update is late: where it starts, or where it ends the open row
abbrev pub comes_at : Edge → Update → ℤ
comes_at edge (Row start end value) = if continues edge.open_row start value then end else start
comes_at edge (Value start value) = start
comes_at edge (NoValue start) = start
comes_at edge (KnownUpTo watermark) = watermark

-- whether an update starts below its end; a value whose end isn't known ends at `T` at the latest
abbrev pub has_ticks : Update → Bool
has_ticks (Row start end value) = int_lt start end
has_ticks (Value start value) = int_lt start T
has_ticks (NoValue start) = true
has_ticks (KnownUpTo watermark) = true

-- the first rule that an update breaks, of an input with this edge
abbrev pub update_fault : Bool → Edge → Update → Option EventFault
update_fault finished edge update =
    if finished then Some Finished
    else if not (in_range update) then Some OutOfRange
    else if int_lt (comes_at edge update) edge.watermark then Some Late
    else if not (has_ticks update) then Some NoTick
    else None

-- the rows that an update closes: the open row, which ends where the update starts, and a new row, or the open row alone, which ends
-- where the update says
abbrev pub closed_by : Edge → Update → List Snapshot
closed_by edge (Row start end value) =
    if continues edge.open_row start value then closed_at end edge.open_row
    else closed_at start edge.open_row ++ record { start = start; end = end; value = value } ∷ []
closed_by edge (Value start value) = closed_at start edge.open_row
closed_by edge (NoValue start) = closed_at start edge.open_row
closed_by edge (KnownUpTo watermark) = []

-- the open row after an update
abbrev pub opened_by : Edge → Update → Option OpenRow
opened_by edge (Row start end value) = None
opened_by edge (Value start value) = Some (record { start = start; value = value })
opened_by edge (NoValue start) = None
opened_by edge (KnownUpTo watermark) = edge.open_row

-- the watermark after an update
abbrev pub watermark_after : Update → ℤ
watermark_after (Row start end value) = end
watermark_after (Value start value) = start +ℤ pos 1
watermark_after (NoValue start) = int_min (start +ℤ pos 1) T
watermark_after (KnownUpTo watermark) = watermark

-- an input after an update that is allowed
abbrev pub updated : Update → InputFeed → InputFeed
updated update input = record {
  rows = input.rows ++ closed_by input.edge update;
  edge = record { open_row = opened_by input.edge update; watermark = watermark_after update };
}

-- an input when nothing more comes
abbrev pub finished_input : InputFeed → InputFeed
finished_input input = record { rows = rows_now input; edge = record { open_row = None; watermark = input.edge.watermark } }

-- the edge of the input with a number, and that of an unknown input if there is none
abbrev pub edge_of : List InputFeed → ℕ → Edge
edge_of [] number = unknown_input.edge
edge_of (input ∷ inputs) zero = input.edge
edge_of (input ∷ inputs) (suc number) = edge_of inputs number

-- the first rule that an event breaks
abbrev pub event_fault : Feed → Event → Option EventFault
event_fault feed (Input number update) = update_fault feed.finished (edge_of feed.inputs number) update
event_fault feed Finish = if feed.finished then Some Finished else None

-- the inputs after an update of the one with a number
abbrev pub updated_at : ℕ → Update → List InputFeed → List InputFeed
updated_at number update [] = []
updated_at zero update (input ∷ inputs) = updated update input ∷ inputs
updated_at (suc number) update (input ∷ inputs) = input ∷ updated_at number update inputs

-- what an event that is allowed makes of the inputs
abbrev pub changed_by : Event → List InputFeed → Feed
changed_by (Input number update) inputs = record { inputs = updated_at number update inputs; finished = false }
changed_by Finish inputs = record { inputs = map finished_input inputs; finished = true }

-- a feed after an event; one that isn't allowed changes nothing
abbrev pub after : Event → Feed → Feed
after event feed = if is_none (event_fault feed event) then changed_by event feed.inputs else feed

-- a feed after events, one after another
abbrev pub after_all : List Event → Feed → Feed
after_all [] feed = feed
after_all (event ∷ events) feed = after_all events (after event feed)
