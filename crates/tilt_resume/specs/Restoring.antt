-- The events that make of an unknown input one of which this is known (our own rule).
use Rattle.std.specs.Prelude.{ℕ, suc, List, [], ◌∷◌, ◌++◌, map, Option, Some, None}
use Rattle.tilt_feed.specs.Feed.{InputFeed}
use Rattle.tilt_feed.specs.declared.edge.Edge.{Edge}
use Rattle.tilt_feed.specs.declared.event.Event.{Event}
use Rattle.tilt_feed.specs.declared.event.Event.TheVariants.{Input}
use Rattle.tilt_feed.specs.declared.open_row.OpenRow.{OpenRow}
use Rattle.tilt_feed.specs.declared.update.Update.{Update}
use Rattle.tilt_feed.specs.declared.update.Update.TheVariants.{Row, Value, KnownUpTo}
use Rattle.tilt_stream.specs.Snap.{Snapshot}

-- a closed row as an update
abbrev pub row_update : Snapshot → Update
row_update row = Row row.start row.end row.value

-- closed rows of the input with a number
abbrev pub row_events : ℕ → List Snapshot → List Event
row_events number rows = map (λ row. Input number (row_update row)) rows

-- its open row, if there is one
abbrev pub open_events : ℕ → Option OpenRow → List Event
open_events number None = []
open_events number (Some row) = Input number (Value row.start row.value) ∷ []

-- its edge
abbrev pub edge_events : ℕ → Edge → List Event
edge_events number edge = open_events number edge.open_row ++ Input number (KnownUpTo edge.watermark) ∷ []

-- all that is known of it
abbrev pub input_events : ℕ → InputFeed → List Event
input_events number input = row_events number input.rows ++ edge_events number input.edge

-- the same of inputs, of which the first has a number
abbrev pub all_events : ℕ → List InputFeed → List Event
all_events number [] = []
all_events number (input ∷ inputs) = input_events number input ++ all_events (suc number) inputs
