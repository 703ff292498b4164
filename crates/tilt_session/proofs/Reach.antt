-- Rows that end before a tick don't matter at that tick and after it.
use Rattle.std.proofs.Common.{◌≡◌, ℤ, pos, ◌+ℤ◌, ◌<ℤ◌, ◌≤ℤ◌, false, List, [], ◌∷◌, ◌++◌, inl, inr, refl, arith}
use Rattle.std.specs.Prelude.{int_le}
use Rattle.std.specs.Ordering.{int_eq}
use Rattle.std.proofs.lemmas.Bool.{cases_Bool}
use Rattle.std.proofs.lemmas.Int.{ints}
use Rattle.tilt_base.proofs.Comparisons.{le_false}
use Rattle.tilt_stream.specs.Agreement.{Agree}
use Rattle.tilt_stream.specs.Snap.{Snapshot, InOrder}
use Rattle.tilt_stream.specs.Stream.{stream_of, covers, cell_at, mark_at}
use Rattle.tilt_stream.specs.Pieces.{kept}

module _ (first : ℤ) (ys : List Snapshot) where
  cell_at-kept : (xs : List Snapshot) (tick : ℤ) → first ≤ℤ tick → cell_at (kept first xs ++ ys) tick ≡ cell_at (xs ++ ys) tick
  cell_at-kept [] tick on = refl
  cell_at-kept (x ∷ xs) tick on =
      elim (cases_Bool (int_le first x.end)) [
        | inl is ↦ rw is (rw (cell_at-kept xs tick on) refl)
        | inr none ↦
            let ends = le_false first x.end none in
            let out : covers x tick ≡ false = grind (arith, ints) in
            rw (none, out) (cell_at-kept xs tick on)
      ]

  mark_at-kept : (from limit : ℤ) (xs : List Snapshot) (tick : ℤ) → InOrder from limit xs → first <ℤ tick
      → mark_at (kept first xs ++ ys) tick ≡ mark_at (xs ++ ys) tick
  mark_at-kept from limit [] tick order on = refl
  mark_at-kept from limit (x ∷ xs) tick order on =
      elim (cases_Bool (int_le first x.end)) [
        | inl is ↦ rw is (rw (mark_at-kept x.end limit xs tick order.3 on) refl)
        | inr none ↦
            let ends = le_false first x.end none in
            let width = order.1 in
            let start : int_eq tick (x.start +ℤ pos 1) ≡ false = grind (arith, ints) in
            let end : int_eq tick (x.end +ℤ pos 1) ≡ false = grind (arith, ints) in
            rw (none, start, end) (mark_at-kept x.end limit xs tick order.3 on)
      ]

  pub kept-agrees : (from limit : ℤ) (xs : List Snapshot) (lo hi : ℤ) → InOrder from limit xs → first ≤ℤ (lo +ℤ pos 1)
      → Agree (stream_of (kept first xs ++ ys)) (stream_of (xs ++ ys)) lo hi
  kept-agrees from limit xs lo hi order on = record {
    cells = λ tick above within. cell_at-kept xs tick (omega (arith, ints));
    marks = λ tick above within. mark_at-kept from limit xs tick order (omega (arith, ints));
  }

  -- what is kept later is kept of what was kept
  pub kept-again : (later : ℤ) (xs : List Snapshot) → first ≤ℤ later → kept later (kept first xs ++ ys) ≡ kept later (xs ++ ys)
  kept-again later [] on = refl
  kept-again later (x ∷ xs) on =
      elim (cases_Bool (int_le first x.end)) [
        | inl is ↦ rw is (rw (kept-again later xs on) refl)
        | inr none ↦
            let ends = le_false first x.end none in
            let out : int_le later x.end ≡ false = grind (arith, ints) in
            rw (none, out) (kept-again later xs on)
      ]
