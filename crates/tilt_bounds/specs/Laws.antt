-- What needs are for: nothing else of the sources matters (the TiLT paper's boundary resolution; these laws are our own rule).
use Rattle.std.specs.Prelude.{◌≡◌, ℕ, ◌<◌, ℤ, ◌+ℤ◌, ◌-ℤ◌, ◌≤ℤ◌, ◌<ℤ◌, List, [], ◌∷◌, ◌++◌, length, Option, Some, None, ⊤}
use Rattle.tilt_base.specs.declared.limits.TheConstants.{T}
use Rattle.tilt_stream.specs.Agreement.{Agree, ChangesOnlyAtMarks}
use Rattle.tilt_stream.specs.Snap.{Snapshot, InOrder}
use Rattle.tilt_stream.specs.Stream.{Stream}
use Rattle.tilt_core.specs.Core.{CoreParts}
use Rattle.tilt_core.specs.Meaning.{meaning}
use Rattle.tilt_core.specs.Needs.{Need}
use Rattle.tilt_bounds.specs.Margins.{MarginsParts, need_at}

-- each source changes only at marks, whatever the rows are
pub record AllChangeOnlyAtMarks (core : CoreParts) : Type 0 where
  pub each : (rows : List (List Snapshot)) (source : ℕ) → ChangesOnlyAtMarks (meaning rows core.defs source)

-- for the output on `(lo, hi]`, two streams of a source agree on what it is asked for; an unused one is asked for nothing
abbrev pub AgreeAsAsked : Option Need → ℤ → ℤ → Stream → Stream → Type 0
AgreeAsAsked None lo hi x y = ⊤
AgreeAsAsked (Some n) lo hi x y = Agree x y (lo -ℤ n.back) (hi +ℤ n.ahead)

-- if the rows of each input agree on what it is asked for, so do the meanings of each source
pub record IsLocal (core : CoreParts) (margins : MarginsParts) : Type 0 where
  pub local : (one other : List (List Snapshot)) (lo hi : ℤ) → length one ≡ length core.inputs → length other ≡ length core.inputs
      → lo <ℤ hi
      → ((input : ℕ) → input < length core.inputs → AgreeAsAsked (need_at margins.needs input) lo hi (meaning one core.defs input)
      (meaning other core.defs input))
      → (source : ℕ) → AgreeAsAsked (need_at margins.needs source) lo hi (meaning one core.defs source) (meaning other core.defs source)

-- rows, and after them others that start at the cut or later
pub record IsContinued (cut : ℤ) (before after : List Snapshot) : Type 0 where
  pub added : List Snapshot
  pub is : after ≡ before ++ added
  pub late : InOrder cut T added

-- the same of the rows of each input
abbrev pub AreContinued : ℤ → List (List Snapshot) → List (List Snapshot) → Type 0
AreContinued cut [] [] = ⊤
AreContinued cut [] (after ∷ afters) = ⊥
AreContinued cut (before ∷ befores) [] = ⊥
AreContinued cut (before ∷ befores) (after ∷ afters) = IsContinued cut before after × AreContinued cut befores afters

-- the same cell and the same mark at each tick up to one
pub record SameUpTo (last : ℤ) (x y : Stream) : Type 0 where
  pub cells : (tick : ℤ) → tick ≤ℤ last → x.cell tick ≡ y.cell tick
  pub marks : (tick : ℤ) → tick ≤ℤ last → x.mark tick ≡ y.mark tick

-- a source with this need stays as it is up to the cut, less the look-ahead, and farther by what it looks ahead. The emitted one looks
-- ahead by nothing
abbrev pub StaysAsAsked : Option Need → ℤ → Stream → Stream → Type 0
StaysAsAsked None last x y = ⊤
StaysAsAsked (Some n) last x y = SameUpTo (last +ℤ n.ahead) x y

-- rows that are added from a cut on change nothing up to the cut less the look-ahead
pub record IsCausal (core : CoreParts) (margins : MarginsParts) : Type 0 where
  pub causal : (cut : ℤ) (before after : List (List Snapshot)) → length before ≡ length core.inputs → AreContinued cut before after
      → (source : ℕ) → StaysAsAsked (need_at margins.needs source) (cut -ℤ margins.ahead) (meaning before core.defs source)
      (meaning after core.defs source)
