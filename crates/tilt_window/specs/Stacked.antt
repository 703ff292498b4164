-- What two stacks keep of their cells.
use Rattle.std.specs.Prelude.{◌≡◌, ℤ, List, [], ◌∷◌, ◌++◌, Option}
use Rattle.tilt_base.specs.Reduce.{numbers}

-- a state for each cell: that of the numbers among it and all cells after it
abbrev pub AreStatesFromEach : {S : Type 0} → (S → List ℤ → Type 0) → List S → List (Option ℤ) → Type 0
AreStatesFromEach Holds [] cells = cells ≡ []
AreStatesFromEach Holds (state ∷ states) [] = ⊥
AreStatesFromEach Holds (state ∷ states) (cell ∷ cells) = Holds state (numbers (cell ∷ cells)) × AreStatesFromEach Holds states cells

-- older cells, each with its state, and after them newer ones, with one state of all of them
pub record IsStacked {S : Type 0} (Holds : S → List ℤ → Type 0) (states : List S) (newer : S) (cells : List (Option ℤ)) : Type 0 where
  pub older_cells : List (Option ℤ)
  pub newer_cells : List (Option ℤ)
  pub split : cells ≡ older_cells ++ newer_cells
  pub from_each : AreStatesFromEach Holds states older_cells
  pub all : Holds newer (numbers newer_cells)
