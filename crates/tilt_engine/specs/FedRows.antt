-- The rows that are kept of a feed from a tick on (our own rule).
use Rattle.std.specs.Prelude.{◌≡◌, ℤ, false, List, [], ◌∷◌, ⊤}
use Rattle.tilt_engine.specs.Stock.{InletParts}
use Rattle.tilt_engine.specs.declared.fed_rows.FedRows.{FedRows}
use Rattle.tilt_feed.specs.Feed.{Feed, InputFeed}
use Rattle.tilt_input_state.specs.Resume.{left_input}
use Rattle.tilt_stream.specs.Pieces.{kept}

-- an input without its closed rows that end below a tick
abbrev pub left_inlet : ℤ → InletParts → InletParts
left_inlet first i = record { input = left_input first i.input; end = i.end }

-- of an input the edge is kept, and all closed rows that end at a tick or after it; others may be
pub record KeepsInput (first : ℤ) (input : InputFeed) (i : InletParts) : Type 0 where
  pub rows : kept first input.rows ≡ kept first i.input.rows
  pub edge : i.input.edge ≡ input.edge

-- the same of each input
abbrev pub KeepsInputs : ℤ → List InputFeed → List InletParts → Type 0
KeepsInputs first [] [] = ⊤
KeepsInputs first (input ∷ inputs) (i ∷ inlets) = KeepsInput first input i × KeepsInputs first inputs inlets
KeepsInputs first inputs inlets = ⊥

-- the same of a feed. Of a finished one nothing has to be kept
pub record KeepsRowsOf (fed : FedRows) (first : ℤ) (feed : Feed) : Type 0 where
  pub finished : fed.finished ≡ feed.finished
  pub inputs : feed.finished ≡ false → KeepsInputs first feed.inputs fed.inputs.items
