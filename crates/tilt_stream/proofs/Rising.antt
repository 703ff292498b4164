-- What is measured of snapshots in order, somewhere between start and end, doesn't fall from one to the next.
use Rattle.std.proofs.Common.{◌≤◌, ◌<◌, ℕ, zero, suc, ℤ, ◌<ℤ◌, ◌≤ℤ◌, int_lt, List, [], ◌∷◌, length, get_or, arith}
use Rattle.std.specs.List.Sorted.{IsPartitionedBy}
use Rattle.std.proofs.lemmas.Int.{ints}
use Rattle.tilt_stream.specs.Snap.{Snapshot, InOrder}

-- a measure that isn't below the start nor above the end, of a snapshot that starts below its end
abbrev pub LiesWithin : (Snapshot → ℤ) → Type 0
LiesWithin measure = (s : Snapshot) → s.start <ℤ s.end → (s.start ≤ℤ measure s) × (measure s ≤ℤ s.end)

module _ (measure : Snapshot → ℤ) (within : LiesWithin measure) where
  -- it isn't below the lower bound of all
  above : (from limit : ℤ) (list : List Snapshot) (i : ℕ) (d : Snapshot) → InOrder from limit list → i < length list → from ≤ℤ measure (get_or list i d)
  above from limit [] i d h there = absurd (omega arith)
  above from limit (s ∷ ss) zero d h there =
      let a = h.0 in
      let b = (within s h.1).0 in
      omega (arith, ints)
  above from limit (s ∷ ss) (suc i) d h there =
      let rest = above s.end limit ss i d h.3 (omega arith) in
      let a = h.0 in
      let b = h.1 in
      omega (arith, ints)

  -- of two, that of the later one isn't below that of the earlier one
  rises : (from limit : ℤ) (list : List Snapshot) (i j : ℕ) (d : Snapshot) → InOrder from limit list → i ≤ j → j < length list
      → measure (get_or list i d) ≤ℤ measure (get_or list j d)
  rises from limit [] i j d h le there = absurd (omega arith)
  rises from limit (s ∷ ss) zero zero d h le there = omega (arith, ints)
  rises from limit (s ∷ ss) zero (suc j) d h le there =
      let rest = above s.end limit ss j d h.3 (omega arith) in
      let end = (within s h.1).1 in
      omega (arith, ints)
  rises from limit (s ∷ ss) (suc i) zero d h le there = absurd (omega arith)
  rises from limit (s ∷ ss) (suc i) (suc j) d h le there = rises s.end limit ss i j d h.3 (omega arith) (omega arith)

  -- so those of which it is below a tick are before the others
  pub parted : (from limit : ℤ) (list : List Snapshot) (tick : ℤ) → InOrder from limit list → IsPartitionedBy (λ (s : Snapshot). int_lt (measure s) tick) list
  parted from limit list tick h = λ i j d le there below.
      let rise = rises from limit list i j d h le there in
      grind (arith, ints)
