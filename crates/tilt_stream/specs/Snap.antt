-- Snapshots, and lists of them in the order of time. Times are ticks, and `(start, end]` is the ticks after the start, up to the end.
use Rattle.std.specs.Prelude.{◌≡◌, ℕ, zero, suc, ℤ, ◌<ℤ◌, ◌≤ℤ◌, neg_ℤ, List, [], ◌∷◌, Option, Some, None, ⊤, if◌then◌else◌, int_lt}
use Rattle.tilt_base.specs.declared.limits.TheConstants.{T, WIDE}

-- a cell that holds on the ticks of `(start, end]`
pub record Snapshot : Type 0 where
  pub start : ℤ
  pub end : ℤ
  pub value : Option ℤ

-- each starts below its end, not before the end of the one before it, and ends at the limit or before; the first doesn't start before
-- `from`
abbrev pub InOrder : ℤ → ℤ → List Snapshot → Type 0
InOrder from limit [] = ⊤
InOrder from limit (s ∷ ss) = (from ≤ℤ s.start) × (s.start <ℤ s.end) × (s.end ≤ℤ limit) × InOrder s.end limit ss

-- each starts where the one before it ends
abbrev pub Touch : List Snapshot → Type 0
Touch [] = ⊤
Touch (s ∷ []) = ⊤
Touch (s ∷ next ∷ ss) = (s.end ≡ next.start) × Touch (next ∷ ss)

-- rows of a series: in order, with times in `-T..T`
abbrev pub AreRows : List Snapshot → Type 0
AreRows rows = InOrder (neg_ℤ T) T rows

-- snapshots without gaps, with times in `-WIDE..WIDE`
pub record AreSnapshots (list : List Snapshot) : Type 0 where
  pub in_order : InOrder (neg_ℤ WIDE) WIDE list
  pub touch : Touch list

-- the list with another value of the one at a place
abbrev pub with_value : ℕ → Option ℤ → List Snapshot → List Snapshot
with_value i value [] = []
with_value zero value (s ∷ ss) = record { start = s.start; end = s.end; value = value } ∷ ss
with_value (suc i) value (s ∷ ss) = s ∷ with_value i value ss

-- where the last one ends
abbrev pub last_end : List Snapshot → Option ℤ
last_end [] = None
last_end (s ∷ []) = Some s.end
last_end (s ∷ next ∷ ss) = last_end (next ∷ ss)

-- how many of them end below a tick
abbrev pub ended_below : ℤ → List Snapshot → ℕ
ended_below tick [] = zero
ended_below tick (s ∷ ss) = if int_lt s.end tick then suc (ended_below tick ss) else ended_below tick ss

-- the null snapshot that fills the gap between an end and a start, if there is a gap
abbrev pub gap_before : Option ℤ → ℤ → List Snapshot
gap_before None start = []
gap_before (Some end) start =
    if int_lt end start then record { start = end; end = start; value = None } ∷ [] else []

-- the list with that start of its first one
abbrev pub joined_open : ℤ → List Snapshot → List Snapshot
joined_open start [] = []
joined_open start (s ∷ ss) = record { start = start; end = s.end; value = s.value } ∷ ss

-- snapshots that go from `lo` to `hi`: the first starts at `lo`, each of the others where the one before it ends, and the last ends at
-- `hi`
abbrev pub Fill : ℤ → ℤ → List Snapshot → Type 0
Fill lo hi [] = lo ≡ hi
Fill lo hi (s ∷ ss) = (s.start ≡ lo) × (lo <ℤ s.end) × Fill s.end hi ss
