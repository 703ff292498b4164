-- Laws of the stream of a list in the order of time.
use Rattle.std.proofs.Common.{◌≡◌, ℤ, pos, ◌+ℤ◌, ◌<ℤ◌, ◌≤ℤ◌, true, false, List, [], ◌∷◌, ◌++◌, None, refl, arith}
use Rattle.std.specs.Ordering.{int_eq}
use Rattle.std.proofs.lemmas.Int.{ints}
use Rattle.tilt_base.proofs.Booleans.{third_true, first_true, second_true}
use Rattle.tilt_stream.specs.Snap.{Snapshot, InOrder}
use Rattle.tilt_stream.specs.Stream.{cell_at, mark_at, covers}

-- before the first one all is null
pub cell_at-before : (from limit : ℤ) (list : List Snapshot) (tick : ℤ) → InOrder from limit list → tick ≤ℤ from → cell_at list tick ≡ None
cell_at-before from limit [] tick h before = refl
cell_at-before from limit (s ∷ ss) tick h before =
    let outside : covers s tick ≡ false = grind (arith, ints) in
    rw outside (cell_at-before s.end limit ss tick h.3 (omega (arith, ints)))

-- before the first one there is no mark
pub mark_at-before : (from limit : ℤ) (list : List Snapshot) (tick : ℤ) → InOrder from limit list → tick ≤ℤ from → mark_at list tick ≡ false
mark_at-before from limit [] tick h before = refl
mark_at-before from limit (s ∷ ss) tick h before =
    let start : int_eq tick (s.start +ℤ pos 1) ≡ false = grind (arith, ints) in
    let end : int_eq tick (s.end +ℤ pos 1) ≡ false = grind (arith, ints) in
    rw (start, end) (mark_at-before s.end limit ss tick h.3 (omega (arith, ints)))

-- none starts before the lower bound of all
starts_from : (from limit : ℤ) (front : List Snapshot) (s : Snapshot) (back : List Snapshot) → InOrder from limit (front ++ s ∷ back) → from ≤ℤ s.start
starts_from from limit [] s back h = h.0
starts_from from limit (f ∷ front) s back h =
    let above : f.end ≤ℤ s.start = starts_from f.end limit front s back h.3 in
    omega (arith, ints)

-- after its first tick a snapshot has no mark
pub mark_at-within : (from limit : ℤ) (front : List Snapshot) (s : Snapshot) (back : List Snapshot) (tick : ℤ)
    → InOrder from limit (front ++ s ∷ back) → (s.start +ℤ pos 1) <ℤ tick → tick ≤ℤ s.end → mark_at (front ++ s ∷ back) tick ≡ false
mark_at-within from limit [] s back tick h low high =
    let start : int_eq tick (s.start +ℤ pos 1) ≡ false = grind (arith, ints) in
    let end : int_eq tick (s.end +ℤ pos 1) ≡ false = grind (arith, ints) in
    rw (start, end) (mark_at-before s.end limit back tick h.3 high)
mark_at-within from limit (f ∷ front) s back tick h low high =
    let above : f.end ≤ℤ s.start = starts_from f.end limit front s back h.3 in
    let start : int_eq tick (f.start +ℤ pos 1) ≡ false = grind (arith, ints) in
    let end : int_eq tick (f.end +ℤ pos 1) ≡ false = grind (arith, ints) in
    rw (start, end) (mark_at-within f.end limit front s back tick h.3 low high)

-- marks of the prefix and of what follows
mark_at-append : (front back : List Snapshot) (tick : ℤ) → mark_at back tick ≡ true → mark_at (front ++ back) tick ≡ true
mark_at-append [] back tick h = h
mark_at-append (f ∷ front) back tick h =
    third_true (int_eq tick (f.start +ℤ pos 1)) (int_eq tick (f.end +ℤ pos 1)) _ (mark_at-append front back tick h)

-- a mark is at its first tick
pub mark_at-start : (front : List Snapshot) (s : Snapshot) (back : List Snapshot) → mark_at (front ++ s ∷ back) (s.start +ℤ pos 1) ≡ true
mark_at-start front s back =
    let start : int_eq (s.start +ℤ pos 1) (s.start +ℤ pos 1) ≡ true = grind (arith, ints) in
    mark_at-append front (s ∷ back) (s.start +ℤ pos 1) (first_true (int_eq (s.start +ℤ pos 1) (s.start +ℤ pos 1)) (int_eq (s.start +ℤ pos 1) (s.end +ℤ pos 1)) (mark_at back (s.start +ℤ pos 1)) start)

-- a mark is after its last tick
pub mark_at-end : (front : List Snapshot) (s : Snapshot) (back : List Snapshot) → mark_at (front ++ s ∷ back) (s.end +ℤ pos 1) ≡ true
mark_at-end front s back =
    let end : int_eq (s.end +ℤ pos 1) (s.end +ℤ pos 1) ≡ true = grind (arith, ints) in
    mark_at-append front (s ∷ back) (s.end +ℤ pos 1) (second_true (int_eq (s.end +ℤ pos 1) (s.start +ℤ pos 1)) (int_eq (s.end +ℤ pos 1) (s.end +ℤ pos 1)) (mark_at back (s.end +ℤ pos 1)) end)
