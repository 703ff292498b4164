-- Sure marks: those that stand whatever comes later (our own rule).
use Rattle.std.specs.Prelude.{ℕ, ℤ, pos, ◌+ℤ◌, Bool, false, ◌&&◌, ◌||◌, List, [], ◌∷◌, map}
use Rattle.std.specs.Ordering.{int_eq}
use Rattle.tilt_core.specs.Core.{CoreParts}
use Rattle.tilt_core.specs.Meaning.{source_of, with_definitions}
use Rattle.tilt_feed.specs.Feed.{InputFeed, Feed, rows_now}
use Rattle.tilt_feed.specs.Horizon.{is_known_at, input_horizon}
use Rattle.tilt_stream.specs.Snap.{Snapshot}
use Rattle.tilt_stream.specs.Stream.{Stream, cell_at, mark_at}

-- whether one of the rows ends at a tick
abbrev pub ends_at : ℤ → List Snapshot → Bool
ends_at tick [] = false
ends_at tick (row ∷ rows) = int_eq row.end tick || ends_at tick rows

-- the sure marks of an input: those up to its horizon, and the one after its watermark if a closed row ends there
abbrev pub has_sure_mark : Bool → InputFeed → ℤ → Bool
has_sure_mark finished input tick =
    (is_known_at (input_horizon finished input.edge) tick && mark_at (rows_now input) tick)
    || (int_eq tick (input.edge.watermark +ℤ pos 1) && ends_at input.edge.watermark input.rows)

-- an input with its sure marks alone
abbrev pub with_sure_marks : Bool → InputFeed → Stream
with_sure_marks finished input = record { cell = cell_at (rows_now input); mark = has_sure_mark finished input }

-- whether a source has a sure mark at a tick. A definition makes its sure marks of the sure marks of the sources before it, as it makes its
-- marks of their marks. Up to the horizon of a source they are all its marks.
abbrev pub is_sure : CoreParts → Feed → ℕ → ℤ → Bool
is_sure core feed source =
    (source_of (with_definitions (map (with_sure_marks feed.finished) feed.inputs) core.defs) source).mark
