-- What an engine is once it has let the first snapshots of its buffers go (our own rule). There is a number for each buffer.
use Rattle.std.specs.Prelude.{◌≡◌, ◌<◌, ◌≤◌, min, ℕ, ◌+◌, ◌-◌, List, [], ◌∷◌, ◌++◌, map, take, drop, get_or, length}
use Rattle.tilt_code.specs.Code.{CodeParts}
use Rattle.tilt_engine.specs.Standing.{AreLoops, IsStockOf}
use Rattle.tilt_engine.specs.Stock.{InletParts, MadeParts}
use Rattle.tilt_engine.specs.Wanted.{wanted}
use Rattle.tilt_feed.specs.Horizon.{Horizon}
use Rattle.tilt_pipe.specs.Rings.{let_go}
use Rattle.tilt_stream.specs.Snap.{Snapshot}
use Rattle.tilt_turn.specs.declared.state.LoopState.{LoopState}

-- what is kept of all buffers, and may go: the closed rows of inputs, and the settled snapshots of loops
abbrev pub kept_lists : List InletParts → List MadeParts → List (List Snapshot)
kept_lists inlets loops = map (λ i. i.input.rows) inlets ++ map (λ m. m.made) loops

-- the first ones of each, as many as that
abbrev pub heads : List ℕ → List (List Snapshot) → List (List Snapshot)
heads [] lists = []
heads (n ∷ counts) [] = []
heads (n ∷ counts) (list ∷ lists) = take n list ∷ heads counts lists

-- what has gone of each buffer, and more of it
abbrev pub added : List (List Snapshot) → List (List Snapshot) → List (List Snapshot)
added [] more = more
added (g ∷ gone) [] = g ∷ gone
added (g ∷ gone) (m ∷ more) = (g ++ m) ∷ added gone more

-- each of these by its number, as far as there are numbers
abbrev pub each_later : {A : Type 0} → (ℕ → A → A) → List ℕ → List A → List A
each_later later [] list = list
each_later later (n ∷ counts) [] = []
each_later later (n ∷ counts) (x ∷ list) = later n x ∷ each_later later counts list

-- an input without its first rows
abbrev pub later_inlet : ℕ → InletParts → InletParts
later_inlet n i = record { input = record { rows = drop n i.input.rows; edge = i.input.edge }; end = i.end }

-- a loop without the first snapshots that it has made
abbrev pub later_made : ℕ → MadeParts → MadeParts
later_made n m = record { made = drop n m.made; settled = m.settled; waiting = m.waiting; hi = m.hi }

-- what is so once they have gone: the inputs and the loops are these, and the loops stay as they were. Of the last loop no more go than
-- were given, and of each other buffer all that no next turn reads
pub record HasForgotten (code : CodeParts) (inlets inlets_then : List InletParts) (made made_then : List MadeParts)
    (states : List LoopState) (counts : List ℕ) (given last : ℕ) : Type 0 where
  pub inputs : inlets_then ≡ each_later later_inlet counts inlets
  pub made_is : made_then ≡ each_later later_made (drop (length code.inputs) counts) made
  pub loops : (rows gone : List (List Snapshot)) (hs : List Horizon) (old : List LoopState)
      → IsStockOf code rows gone hs inlets made old (length code.loops)
      → AreLoops code rows (added gone (heads counts (kept_lists inlets made))) hs made_then states (length code.loops)
  pub last_is : get_or counts (length code.inputs + (length code.loops - 1)) 0 ≡ last
  pub within : last ≤ length (get_or (kept_lists inlets made) (length code.inputs + (length code.loops - 1)) [])
  pub unread : (number : ℕ) → number < length code.inputs + (length code.loops - 1)
      → get_or counts number 0 ≡ let_go (wanted number code.loops made) (get_or (kept_lists inlets made) number [])
  pub returned : last ≡ min given (let_go (wanted (length code.inputs + (length code.loops - 1)) code.loops made)
      (get_or (kept_lists inlets made) (length code.inputs + (length code.loops - 1)) []))
