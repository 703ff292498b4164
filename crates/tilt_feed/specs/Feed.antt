-- A feed: what is known of the inputs of a query while data arrive (our own rule). Times are those of the data (event time).
use Rattle.std.specs.Prelude.{ℕ, ℤ, neg_ℤ, Bool, false, List, [], ◌∷◌, ◌++◌, map, replicate, Option, Some, None}
use Rattle.tilt_base.specs.declared.limits.TheConstants.{T}
use Rattle.tilt_feed.specs.declared.edge.Edge.{Edge}
use Rattle.tilt_feed.specs.declared.open_row.OpenRow.{OpenRow}
use Rattle.tilt_stream.specs.Snap.{Snapshot}

-- what is known of an input: its closed rows, in order, and the edge after them. The edge has the row that has begun and whose end isn't
-- known yet, if there is one, and the watermark
pub record InputFeed : Type 0 where
  pub rows : List Snapshot
  pub edge : Edge

-- what is known of each input, in order, and whether nothing more comes
pub record Feed : Type 0 where
  pub inputs : List InputFeed
  pub finished : Bool

-- an open row, if there is one, ended at a tick
abbrev pub closed_at : ℤ → Option OpenRow → List Snapshot
closed_at tick None = []
closed_at tick (Some row) = record { start = row.start; end = tick; value = Some row.value } ∷ []

-- the rows of an input as they are now: the closed ones, and the open one, ended at the watermark
abbrev pub rows_now : InputFeed → List Snapshot
rows_now input = input.rows ++ closed_at input.edge.watermark input.edge.open_row

-- the same of each input
abbrev pub all_rows_now : Feed → List (List Snapshot)
all_rows_now feed = map rows_now feed.inputs

-- the closed rows of each input
abbrev pub closed_rows : Feed → List (List Snapshot)
closed_rows feed = map (λ input. input.rows) feed.inputs

-- the watermark of each input
abbrev pub watermarks : Feed → List ℤ
watermarks feed = map (λ input. input.edge.watermark) feed.inputs

-- an input of which nothing is known
abbrev pub unknown_input : InputFeed
unknown_input = record { rows = []; edge = record { open_row = None; watermark = neg_ℤ T } }

-- the feed of so many inputs before its first event
abbrev pub empty_feed : ℕ → Feed
empty_feed inputs = record { inputs = replicate inputs unknown_input; finished = false }
