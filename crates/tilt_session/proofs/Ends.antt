-- Rows in order, after others, and of those the ones that are kept.
use Rattle.std.proofs.Common.{◌≡◌, ℤ, ◌<ℤ◌, ◌≤ℤ◌, true, false, List, [], ◌∷◌, Some, None, inl, inr, refl, arith}
use Rattle.std.specs.Prelude.{int_le}
use Rattle.std.specs.List.{AllByRecursion}
use Rattle.std.proofs.lemmas.Bool.{cases_Bool}
use Rattle.std.proofs.lemmas.Int.{ints}
use Rattle.tilt_stream.proofs.Order.{InOrder-rest, last_end-low}
use Rattle.tilt_stream.specs.Snap.{Snapshot, InOrder, last_end}
use Rattle.tilt_stream.specs.Pieces.{kept}

module _ (first : ℤ) where
  -- those that are kept are in order
  pub InOrder-kept : (from limit : ℤ) (xs : List Snapshot) → InOrder from limit xs → InOrder from limit (kept first xs)
  InOrder-kept from limit [] h = tt
  InOrder-kept from limit (x ∷ xs) h =
      elim (cases_Bool (int_le first x.end)) [
        | inl is ↦ rw is (h.0, h.1, h.2, InOrder-kept x.end limit xs h.3)
        | inr none ↦ rw none (InOrder-kept from limit xs (InOrder-rest from limit x xs h))
      ]

  last_front : (x : Snapshot) (l : List Snapshot) (end : ℤ) → last_end l ≡ Some end → last_end (x ∷ l) ≡ Some end
  last_front x [] end is = absurd (cc is)
  last_front x (y ∷ l) end is = is

  -- the last one is kept where it ends there or after, and else none is
  pub last-kept : (from limit : ℤ) (xs : List Snapshot) (end : ℤ) → InOrder from limit xs → last_end xs ≡ Some end → first ≤ℤ end
      → last_end (kept first xs) ≡ Some end
  last-kept from limit [] end h is on = is
  last-kept from limit (x ∷ []) end h is on =
      let e : x.end ≡ end = cc in
      let test : int_le first x.end ≡ true = grind (arith, ints) in
      rw test is
  last-kept from limit (x ∷ y ∷ ys) end h is on =
      let more = last-kept x.end limit (y ∷ ys) end h.3 is on in
      elim (cases_Bool (int_le first x.end)) [
        | inl test ↦ rw test (last_front x (kept first (y ∷ ys)) end more)
        | inr none ↦ rw none more
      ]

  pub none-kept : (from limit : ℤ) (xs : List Snapshot) (end : ℤ) → InOrder from limit xs → last_end xs ≡ Some end → end <ℤ first
      → kept first xs ≡ []
  none-kept from limit [] end h is before = refl
  none-kept from limit (x ∷ []) end h is before =
      let e : x.end ≡ end = cc in
      let test : int_le first x.end ≡ false = grind (arith, ints) in
      rw test refl
  none-kept from limit (x ∷ y ∷ ys) end h is before =
      let low : x.end ≤ℤ end = last_end-low x.end limit (y ∷ ys) end h.3 is in
      let test : int_le first x.end ≡ false = grind (arith, ints) in
      rw test (none-kept x.end limit (y ∷ ys) end h.3 is before)

-- where the last one ends, rows lie within their bounds
pub last-bounds : (from limit upto : ℤ) (xs : List Snapshot) (end : ℤ) → InOrder from limit xs
    → AllByRecursion (λ row. row.start <ℤ upto) xs
    → last_end xs ≡ Some end → (from <ℤ end) × (end ≤ℤ limit) × (from <ℤ upto)
last-bounds from limit upto [] end h early is = absurd (cc is)
last-bounds from limit upto (x ∷ []) end h early is =
    let e : x.end ≡ end = cc in
    let low = h.0 in
    let width = h.1 in
    let high = h.2 in
    let before = early.0 in
    (omega (arith, ints), omega (arith, ints), omega (arith, ints))
last-bounds from limit upto (x ∷ y ∷ ys) end h early is =
    let more = last-bounds x.end limit upto (y ∷ ys) end h.3 early.1 is in
    let low = h.0 in
    let width = h.1 in
    (omega (arith, ints), more.1, omega (arith, ints))

-- where there is no last one, there is none
pub no-last : (xs : List Snapshot) → last_end xs ≡ None → xs ≡ []
no-last [] is = refl
no-last (x ∷ []) is = absurd (cc is)
no-last (x ∷ y ∷ ys) is = absurd (let e : y ∷ ys ≡ [] = no-last (y ∷ ys) is in cc)
