-- Where an edit changes rows: at the place of the first row that ends after its start.
use Rattle.std.proofs.Common.{◌≡◌, ℕ, zero, suc, ◌≤◌, ℤ, pos, ◌+ℤ◌, ◌<ℤ◌, ◌≤ℤ◌, int_lt, int_le, Bool, true, false, ◌||◌, not, if◌then◌else◌, List, [], ◌∷◌, length, map, filter}
use Rattle.std.proofs.Common.{Some, Ok, Err, slice_get, inl, inr, refl, sym, ap, ◌∙◌, subst, arith}
use Rattle.std.proofs.lemmas.Bool.{cases_Bool}
use Rattle.std.proofs.lemmas.Int.{ints, by_lt_z}
use Rattle.std.specs.List.{insert, remove, list_any}
use Rattle.std.specs.List.Sorted.{IsPartitionPoint, IsPartitionedBy}
use Rattle.std.specs.Ordering.{int_eq}
use Rattle.tilt_edits.specs.Edited.{has_times, meets, with_row, added}
use Rattle.tilt_edits.specs.declared.fault.FixFault.TheVariants.{Overlaps}
use Rattle.tilt_stream.proofs.Ended.{none_ended, ended-counted, ended-parted}
use Rattle.tilt_stream.specs.Snap.{Snapshot, InOrder, ended_below, with_value}

-- a row that ends at a tick or before it ends below the next tick
ended_is : (end tick : ℤ) → int_le end tick ≡ int_lt end (tick +ℤ pos 1)
ended_is end tick =
    by_lt_z tick end
    (λ above. let out : int_le end tick ≡ false = grind (arith, ints) in let too : int_lt end (tick +ℤ pos 1) ≡ false = grind (arith, ints) in out ∙ sym too)
    (λ below. let out : int_le end tick ≡ true = grind (arith, ints) in let too : int_lt end (tick +ℤ pos 1) ≡ true = grind (arith, ints) in out ∙ sym too)

-- no row that starts where another one ends, or later, has its times or a tick in common with it
none_has : (start end from limit : ℤ) (list : List Snapshot) → InOrder from limit list → start <ℤ from → list_any (has_times start end) list ≡ false
none_has start end from limit [] h low = refl
none_has start end from limit (s ∷ ss) h low =
    let a = h.0 in
    let out : int_eq s.start start ≡ false = grind (arith, ints) in
    rw out (none_has start end s.end limit ss h.3 (let b = h.1 in omega (arith, ints)))

none_meets : (row : Snapshot) (from limit : ℤ) (list all : List Snapshot) → InOrder from limit list → row.end ≤ℤ from
    → added row list all ≡ Ok (with_row row all)
none_meets row from limit [] all h low = refl
none_meets row from limit (s ∷ ss) all h low =
    let a = h.0 in
    let b = h.1 in
    let out : meets row s ≡ false = grind (arith, ints) in
    rw out (none_meets row s.end limit ss all h.3 (omega (arith, ints)))

-- the row at a place is above the lower bound of all
read_above : (from limit : ℤ) (list : List Snapshot) (at : ℕ) (s : Snapshot) → InOrder from limit list → slice_get list at ≡ Some s → from ≤ℤ s.start
read_above from limit [] at s h is = absurd (cc is)
read_above from limit (x ∷ xs) zero s h is = let e : x ≡ s = cc in rw (← e) h.0
read_above from limit (x ∷ xs) (suc i) s h is =
    let rest = read_above x.end limit xs i s h.3 is in
    let a = h.0 in
    let b = h.1 in
    omega (arith, ints)

-- if a row is at a place, one has its times
pub some_has : (start end : ℤ) (list : List Snapshot) (at : ℕ) (s : Snapshot) → slice_get list at ≡ Some s → has_times start end s ≡ true
    → list_any (has_times start end) list ≡ true
some_has start end [] at s is has = absurd (cc is)
some_has start end (x ∷ xs) zero s is has = let e : x ≡ s = cc in rw (e, has) refl
some_has start end (x ∷ xs) (suc i) s is has = rw (some_has start end xs i s is has) (or_true (has_times start end x))
  where
    or_true : (b : Bool) → (b || true) ≡ true
    or_true true = refl
    or_true false = refl

-- where all rows start above a start, none ends at it or before it
pub first_left : (start from limit : ℤ) (list : List Snapshot) → InOrder from limit list → start <ℤ from → ended_below (start +ℤ pos 1) list ≡ 0
first_left start from limit list h low = none_ended from limit list (start +ℤ pos 1) h (omega (arith, ints))

-- where the first row that ends after a start hasn't these times, no row has them
pub not_has : (start end from limit : ℤ) (list : List Snapshot) → InOrder from limit list
    → ((s : Snapshot) → slice_get list (ended_below (start +ℤ pos 1) list) ≡ Some s → has_times start end s ≡ false) → list_any (has_times start end) list ≡ false
not_has start end from limit [] h none = refl
not_has start end from limit (s ∷ ss) h none =
    let width = h.1 in
    elim (cases_Bool (int_lt s.end (start +ℤ pos 1))) [
      | inl is ↦
          let out : int_eq s.start start ≡ false = grind (arith, ints) in
          rw out (not_has start end s.end limit ss h.3 (rw is at none))
      | inr left ↦
          let zeroth = first_left start s.end limit ss h.3 (grind (arith, ints)) in
          let first = none s (rw (left, zeroth) refl) in
          rw first (none_has start end s.end limit ss h.3 (grind (arith, ints)))
    ]

-- where the first row that ends after the start of another one doesn't start before that one ends, there is room for it
pub has_room : (row : Snapshot) (from limit : ℤ) (list all : List Snapshot) → InOrder from limit list → row.start <ℤ row.end
    → ((s : Snapshot) → slice_get list (ended_below (row.start +ℤ pos 1) list) ≡ Some s → row.end ≤ℤ s.start) → added row list all ≡ Ok (with_row row all)
has_room row from limit [] all h some free = refl
has_room row from limit (s ∷ ss) all h some free =
    let width = h.1 in
    elim (cases_Bool (int_lt s.end (row.start +ℤ pos 1))) [
      | inl is ↦
          let out : meets row s ≡ false = grind (arith, ints) in
          rw out (has_room row s.end limit ss all h.3 some (rw is at free))
      | inr left ↦
          let zeroth = first_left row.start s.end limit ss h.3 (grind (arith, ints)) in
          let first = free s (rw (left, zeroth) refl) in
          let out : meets row s ≡ false = grind (arith, ints) in
          rw out (none_meets row s.end limit ss all h.3 (omega (arith, ints)))
    ]

-- and it is inserted at that place
pub with_row-at : (row : Snapshot) (from limit : ℤ) (list : List Snapshot) → InOrder from limit list → row.start <ℤ row.end
    → ((s : Snapshot) → slice_get list (ended_below (row.start +ℤ pos 1) list) ≡ Some s → row.end ≤ℤ s.start)
    → with_row row list ≡ insert list (ended_below (row.start +ℤ pos 1) list) row
with_row-at row from limit [] h some free = refl
with_row-at row from limit (s ∷ ss) h some free =
    let width = h.1 in
    elim (cases_Bool (int_lt s.end (row.start +ℤ pos 1))) [
      | inl is ↦
          let before : int_lt s.start row.start ≡ true = grind (arith, ints) in
          rw (is, before) (ap (λ (l : List Snapshot). s ∷ l) (with_row-at row s.end limit ss h.3 some (rw is at free)))
      | inr left ↦
          let zeroth = first_left row.start s.end limit ss h.3 (grind (arith, ints)) in
          let first = free s (rw (left, zeroth) refl) in
          let after : int_lt s.start row.start ≡ false = grind (arith, ints) in
          rw (left, zeroth, after) refl
    ]

-- where that row starts before the other one ends, it is the first that has a tick in common with it
pub has_no_room : (row s : Snapshot) (from limit : ℤ) (list all : List Snapshot) → InOrder from limit list
    → slice_get list (ended_below (row.start +ℤ pos 1) list) ≡ Some s → s.start <ℤ row.end → added row list all ≡ Err (Overlaps s)
has_no_room row s from limit [] all h is begun = absurd (cc is)
has_no_room row s from limit (x ∷ xs) all h is begun =
    elim (cases_Bool (int_lt x.end (row.start +ℤ pos 1))) [
      | inl ended ↦
          let out : meets row x ≡ false = grind (arith, ints) in
          rw out (has_no_room row s x.end limit xs all h.3 (rw ended at is) begun)
      | inr left ↦
          let zeroth = first_left row.start x.end limit xs h.3 (grind (arith, ints)) in
          let found : Some x ≡ Some s = rw (left, zeroth) at is in
          let same : x ≡ s = cc in
          let both : meets row s ≡ true = meets_by row s begun (rw same at left) in
          rw (same, both) refl
    ]
  where
    meets_by : (row s : Snapshot) → s.start <ℤ row.end → int_lt s.end (row.start +ℤ pos 1) ≡ false → meets row s ≡ true
    meets_by row s begun left = grind (arith, ints)

-- the rows without the one of some times, and with another one in its place
none_out : (start end from limit : ℤ) (list : List Snapshot) → InOrder from limit list → start <ℤ from
    → filter (λ s. not (has_times start end s)) list ≡ list
none_out start end from limit [] h low = refl
none_out start end from limit (s ∷ ss) h low =
    let a = h.0 in
    let b = h.1 in
    let out : has_times start end s ≡ false = grind (arith, ints) in
    rw out (ap (λ (l : List Snapshot). s ∷ l) (none_out start end s.end limit ss h.3 (omega (arith, ints))))

none_set : (row : Snapshot) (start end from limit : ℤ) (list : List Snapshot) → InOrder from limit list → start <ℤ from
    → map (λ s. if has_times start end s then row else s) list ≡ list
none_set row start end from limit [] h low = refl
none_set row start end from limit (s ∷ ss) h low =
    let a = h.0 in
    let b = h.1 in
    let out : has_times start end s ≡ false = grind (arith, ints) in
    rw out (ap (λ (l : List Snapshot). s ∷ l) (none_set row start end s.end limit ss h.3 (omega (arith, ints))))

pub has_own : (s : Snapshot) → has_times s.start s.end s ≡ true
has_own s = grind (arith, ints)

pub taken_out : (from limit : ℤ) (list : List Snapshot) (at : ℕ) (s : Snapshot) → InOrder from limit list → slice_get list at ≡ Some s
    → filter (λ x. not (has_times s.start s.end x)) list ≡ remove list at
taken_out from limit [] at s h is = absurd (cc is)
taken_out from limit (x ∷ xs) zero s h is =
    let e : x ≡ s = cc in
    let b = h.1 in
    rw (e, has_own s) (none_out s.start s.end s.end limit xs (rw e at h.3) (rw e at b))
taken_out from limit (x ∷ xs) (suc i) s h is =
    let above = read_above x.end limit xs i s h.3 is in
    let b = h.1 in
    let out : has_times s.start s.end x ≡ false = grind (arith, ints) in
    rw out (ap (λ (l : List Snapshot). x ∷ l) (taken_out x.end limit xs i s h.3 is))

pub set_at : (row : Snapshot) (from limit : ℤ) (list : List Snapshot) (at : ℕ) (s : Snapshot) → InOrder from limit list → slice_get list at ≡ Some s
    → row.start ≡ s.start → row.end ≡ s.end → map (λ x. if has_times row.start row.end x then row else x) list ≡ with_value at row.value list
set_at row from limit [] at s h is starts ends = absurd (cc is)
set_at row from limit (x ∷ xs) zero s h is starts ends =
    let e : x ≡ s = cc in
    let b = h.1 in
    let first : row.start ≡ x.start = starts ∙ ap (λ (t : Snapshot). t.start) (sym e) in
    let last : row.end ≡ x.end = ends ∙ ap (λ (t : Snapshot). t.end) (sym e) in
    let has : has_times row.start row.end x ≡ true = grind (arith, ints) in
    let below : row.start <ℤ x.end = omega (arith, ints) in
    let same : row ≡ record { start = x.start; end = x.end; value = row.value } = λ i. record { start = first i; end = last i; value = row.value } in
    rw has (λ i. same i ∷ none_set row row.start row.end x.end limit xs h.3 below i)
set_at row from limit (x ∷ xs) (suc i) s h is starts ends =
    let above = read_above x.end limit xs i s h.3 is in
    let b = h.1 in
    let out : has_times row.start row.end x ≡ false = grind (arith, ints) in
    rw out (ap (λ (l : List Snapshot). x ∷ l) (set_at row x.end limit xs i s h.3 is starts ends))

-- a search that parts them finds that place
pub passed_is : (from limit : ℤ) (list : List Snapshot) (tick : ℤ) (at : ℕ) → InOrder from limit list → at ≤ length list
    → (IsPartitionedBy (λ (s : Snapshot). int_le s.end tick) list
    → IsPartitionPoint (λ (s : Snapshot). int_le s.end tick ≡ true) (λ (s : Snapshot). int_le s.end tick ≡ false) list at)
    → at ≡ ended_below (tick +ℤ pos 1) list
passed_is from limit list tick at h within point =
    let same : (λ (s : Snapshot). int_le s.end tick) ≡ (λ (s : Snapshot). int_lt s.end (tick +ℤ pos 1)) = λ i s. ended_is s.end tick i in
    let parted = subst (λ (p : Snapshot → Bool). IsPartitionedBy p list) (sym same) (ended-parted from limit list (tick +ℤ pos 1) h) in
    ended-counted list (tick +ℤ pos 1) at within
    (subst (λ (p : Snapshot → Bool). IsPartitionPoint (λ (s : Snapshot). p s ≡ true) (λ (s : Snapshot). p s ≡ false) list at) same (point parted))
