-- The change of rows that an edit is.
use Rattle.std.proofs.Common.{◌≡◌, ℕ, suc, zero, ◌+◌, ℤ, neg_ℤ, pos, ◌+ℤ◌, ◌<ℤ◌, ◌≤ℤ◌, int_lt, List, [], ◌∷◌, ◌++◌, take, drop}
use Rattle.std.proofs.Common.{Option, Some, Ok, slice_get, inl, inr, refl, sym, ap, ◌∙◌, subst, arith}
use Rattle.std.proofs.lemmas.Bool.{cases_Bool}
use Rattle.std.proofs.lemmas.Int.{ints}
use Rattle.std.proofs.lemmas.Option.{slice_get_within}
use Rattle.std.specs.List.{insert}
use Rattle.tilt_base.specs.declared.limits.TheConstants.{T}
use Rattle.tilt_fix.proofs.Changes.{has_room, with_row-at, some_has, has_own, taken_out, set_at, first_left}
use Rattle.tilt_fix.specs.Change.{HasRowAt, IsChangeOf}
use Rattle.tilt_fix.specs.declared.change.Change.TheVariants.{Insert, Remove, Revalue}
use Rattle.tilt_edits.specs.declared.edit.Edit.TheVariants.{Add, Remove as TakeOut, Set}
use Rattle.tilt_stream.proofs.Order.{InOrder-removed, InOrder-valued}
use Rattle.tilt_stream.proofs.Places.{ended-within}
use Rattle.tilt_stream.specs.Snap.{Snapshot, AreRows, InOrder, ended_below, with_value}

-- rows with one more, for which there is room at its place, are in order
InOrder-insert : (row : Snapshot) (from limit : ℤ) (list : List Snapshot) → InOrder from limit list → from ≤ℤ row.start → row.start <ℤ row.end
    → row.end ≤ℤ limit → ((s : Snapshot) → slice_get list (ended_below (row.start +ℤ pos 1) list) ≡ Some s → row.end ≤ℤ s.start)
    → InOrder from limit (insert list (ended_below (row.start +ℤ pos 1) list) row)
InOrder-insert row from limit [] h low some high free = (low, some, high, tt)
InOrder-insert row from limit (s ∷ ss) h low some high free =
    elim (cases_Bool (int_lt s.end (row.start +ℤ pos 1))) [
      | inl is ↦
          rw is (h.0, h.1, h.2, InOrder-insert row s.end limit ss h.3 (grind (arith, ints)) some high (rw is at free))
      | inr left ↦
          let zeroth = first_left row.start s.end limit ss h.3 (grind (arith, ints)) in
          let first = free s (rw (left, zeroth) refl) in
          rw (left, zeroth) (low, some, high, (first, h.1, h.2, h.3))
    ]

pub insertion_is : (input : ℕ) (row : Snapshot) (rows : List Snapshot) (at : ℕ) → at ≡ ended_below (row.start +ℤ pos 1) rows → AreRows rows
    → neg_ℤ T ≤ℤ row.start → row.start <ℤ row.end → row.end ≤ℤ T
    → ((s : Snapshot) → slice_get rows (ended_below (row.start +ℤ pos 1) rows) ≡ Some s → row.end ≤ℤ s.start)
    → IsChangeOf (Add input row) rows (Insert at row)
insertion_is input row rows at place h low some high free =
    subst (λ (n : ℕ). IsChangeOf (Add input row) rows (Insert n row)) (sym place) (record {
      is = has_room row (neg_ℤ T) T rows rows h some free ∙ ap Ok (with_row-at row (neg_ℤ T) T rows h some free);
      within = ended-within (row.start +ℤ pos 1) rows;
      in_order = InOrder-insert row (neg_ℤ T) T rows h low some high free;
      parts = refl;
    })

-- the row that was read at a place, by its times
pub row_at : (rows : List Snapshot) (start end : ℤ) (at : ℕ) (s : Snapshot) → slice_get rows at ≡ Some s → s.start ≡ start → s.end ≡ end
    → HasRowAt rows start end at
row_at rows start end at s is starts ends = record {
  value = s.value;
  is = is ∙ (λ i. Some (record { start = starts i; end = ends i; value = s.value }));
}

pub removal_is : (input : ℕ) (start end : ℤ) (rows : List Snapshot) (at : ℕ) → AreRows rows → HasRowAt rows start end at
    → IsChangeOf (TakeOut input start end) rows (Remove at)
removal_is input start end rows at h row =
    let s : Snapshot = record { start = start; end = end; value = row.value } in
    let one : at + 1 ≡ suc at = omega arith in
    record {
      is = rw (some_has start end rows at s row.is (has_own s)) (ap Ok (taken_out (neg_ℤ T) T rows at s h row.is));
      within = slice_get_within rows at s row.is;
      in_order = subst (λ (n : ℕ). AreRows (take at rows ++ drop n rows)) one (InOrder-removed (neg_ℤ T) T rows at h);
      parts = refl;
    }

-- a row that gets another value is between the others
valued-parts : (list : List Snapshot) (at : ℕ) (start end : ℤ) (old value : Option ℤ) → slice_get list at ≡ Some (record { start = start; end = end; value = old })
    → with_value at value list ≡ take at list ++ record { start = start; end = end; value = value } ∷ drop (suc at) list
valued-parts [] at start end old value is = absurd (cc is)
valued-parts (x ∷ xs) zero start end old value is =
    let e : x ≡ record { start = start; end = end; value = old } = cc in
    λ i. record { start = (e i).start; end = (e i).end; value = value } ∷ xs
valued-parts (x ∷ xs) (suc i) start end old value is = ap (λ (l : List Snapshot). x ∷ l) (valued-parts xs i start end old value is)

pub revaluation_is : (input : ℕ) (row : Snapshot) (rows : List Snapshot) (at : ℕ) → AreRows rows → HasRowAt rows row.start row.end at
    → IsChangeOf (Set input row) rows (Revalue at row.value)
revaluation_is input row rows at h old =
    let s : Snapshot = record { start = row.start; end = row.end; value = old.value } in
    record {
      is = rw (some_has row.start row.end rows at s old.is (has_own s)) (ap Ok (set_at row (neg_ℤ T) T rows at s h old.is refl refl));
      within = slice_get_within rows at s old.is;
      in_order = InOrder-valued (neg_ℤ T) T rows at row.value h;
      parts = valued-parts rows at row.start row.end old.value row.value old.is;
    }
