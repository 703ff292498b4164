-- What is left of inputs, from rows of them and from what their watermarks keep.
use Rattle.std.specs.Prelude.{ℕ, zero, suc, List, [], ◌∷◌}
use Rattle.tilt_feed.specs.Feed.{InputFeed}
use Rattle.tilt_live_state.specs.State.{InputParts}
use Rattle.tilt_stream.specs.Snap.{Snapshot}
use Rattle.tilt_watermarks.specs.Held.{Waiting}

-- the closed rows of the input with a number, or none if there is no such input
abbrev pub rows_at : List InputFeed → ℕ → List Snapshot
rows_at [] number = []
rows_at (input ∷ inputs) zero = input.rows
rows_at (input ∷ inputs) (suc number) = rows_at inputs number

-- of inputs, counted from a number, their rows and what their watermarks keep
abbrev pub joined : ℕ → List InputFeed → List Waiting → List InputParts
joined number known [] = []
joined number known (input ∷ waiting) =
    record { rows = rows_at known number; edge = input.edge; held = input.held } ∷ joined (suc number) known waiting

-- an input of which no update is held
abbrev pub bare : InputFeed → InputParts
bare input = record { rows = input.rows; edge = input.edge; held = [] }
