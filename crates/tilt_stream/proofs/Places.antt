-- How many snapshots end below a tick, seen from one place.
use Rattle.std.proofs.Common.{◌≡◌, ◌≤◌, ◌<◌, ℕ, zero, suc, ℤ, ◌<ℤ◌, ◌≤ℤ◌, Bool, true, false, if◌then◌else◌, int_lt, List, [], ◌∷◌, length, slice_get, Option, Some, None, IfSome, IsTrue, ◌↔◌, refl}
use Rattle.std.proofs.Common.{arith, sym, ◌∙◌, inl, inr}
use Rattle.std.proofs.lemmas.Bool.{cases_lt, false≢true}
use Rattle.std.proofs.lemmas.Int.{ints}
use Rattle.tilt_stream.proofs.Ended.{none_ended}
use Rattle.tilt_stream.specs.Snap.{Snapshot, InOrder, ended_below}

-- wider bounds hold too
pub InOrder-wider : (from limit low high : ℤ) (list : List Snapshot) → InOrder from limit list → low ≤ℤ from → limit ≤ℤ high → InOrder low high list
InOrder-wider from limit low high [] h below above = tt
InOrder-wider from limit low high (s ∷ ss) h below above =
    let a = h.0 in
    let c = h.2 in
    (omega (arith, ints), h.1, omega (arith, ints), InOrder-wider s.end limit s.end high ss h.3 (omega (arith, ints)) above)

ended-by : (tick : ℤ) (s : Snapshot) (ss : List Snapshot) (is : Bool) → ended_below tick ss ≤ length ss → (if is then suc (ended_below tick ss) else ended_below tick ss) ≤ suc (length ss)
ended-by tick s ss true h = omega arith
ended-by tick s ss false h = omega arith

pub ended-within : (tick : ℤ) (list : List Snapshot) → ended_below tick list ≤ length list
ended-within tick [] = omega arith
ended-within tick (s ∷ ss) = ended-by tick s ss (int_lt s.end tick) (ended-within tick ss)

rises-by : (tick later : ℤ) (s : Snapshot) (ss : List Snapshot) (a b : Bool) → int_lt s.end tick ≡ a → int_lt s.end later ≡ b → tick ≤ℤ later → ended_below tick ss ≤ ended_below later ss
    → (if a then suc (ended_below tick ss) else ended_below tick ss) ≤ (if b then suc (ended_below later ss) else ended_below later ss)
rises-by tick later s ss true true is too le h = omega arith
rises-by tick later s ss true false is too le h =
    let ended : s.end <ℤ tick = grind (arith, ints) in
    let left : later ≤ℤ s.end = grind (arith, ints) in
    absurd (omega (arith, ints))
rises-by tick later s ss false true is too le h = omega arith
rises-by tick later s ss false false is too le h = h

-- no fewer end below a later tick
pub ended-rises : (tick later : ℤ) (list : List Snapshot) → tick ≤ℤ later → ended_below tick list ≤ ended_below later list
ended-rises tick later [] le = omega arith
ended-rises tick later (s ∷ ss) le =
    rises-by tick later s ss (int_lt s.end tick) (int_lt s.end later) refl refl le (ended-rises tick later ss le)

-- one that is after the lower bound of all ends above it
read_above : (from limit : ℤ) (list : List Snapshot) (place : ℕ) (s : Snapshot) → InOrder from limit list → slice_get list place ≡ Some s → (from ≤ℤ s.start) × (s.start <ℤ s.end) × (s.end ≤ℤ limit)
read_above from limit [] place s h is = absurd (cc is)
read_above from limit (x ∷ xs) zero s h is = let e : x ≡ s = cc in rw (← e) (h.0, h.1, h.2)
read_above from limit (x ∷ xs) (suc i) s h is =
    let rest = read_above x.end limit xs i s h.3 is in
    let a = rest.0 in
    let b = h.0 in
    let c = h.1 in
    (omega (arith, ints), rest.1, rest.2)

-- the one at a place lies within the bounds of all
pub read-within : (from limit : ℤ) (list : List Snapshot) (place : ℕ) (found : Option Snapshot) → InOrder from limit list
    → found ≡ slice_get list place → IfSome found (λ s. from ≤ℤ s.start) × IfSome found (λ s. s.end ≤ℤ limit)
read-within from limit list place None h is = (tt, tt)
read-within from limit list place (Some s) h is = let all = read_above from limit list place s h (sym is) in (all.0, all.2)

first_passed : (from limit : ℤ) (x : Snapshot) (xs : List Snapshot) (tick : ℤ) (is : Bool) → int_lt x.end tick ≡ is → InOrder from limit (x ∷ xs)
    → IsTrue is ↔ (zero < (if is then suc (ended_below tick xs) else ended_below tick xs))
first_passed from limit x xs tick true is h = ((λ _. omega arith), (λ _. refl))
first_passed from limit x xs tick false is h = rw (none_ended x.end limit xs tick h.3 (grind (arith, ints))) ((λ no. absurd (cc no)), (λ no. absurd (omega arith)))

later_passed : (from limit : ℤ) (x : Snapshot) (xs : List Snapshot) (i : ℕ) (s : Snapshot) (tick : ℤ) (is : Bool) → int_lt x.end tick ≡ is → InOrder from limit (x ∷ xs) → slice_get xs i ≡ Some s
    → IsTrue (int_lt s.end tick) ↔ (i < ended_below tick xs) → IsTrue (int_lt s.end tick) ↔ (suc i < (if is then suc (ended_below tick xs) else ended_below tick xs))
later_passed from limit x xs i s tick true is h found rest =
    ((λ yes. let below = rest.0 yes in omega arith), (λ below. rest.1 (omega arith)))
later_passed from limit x xs i s tick false is h found rest =
    let above = read_above x.end limit xs i s h.3 found in
    let a = above.0 in
    let b = above.1 in
    let out : int_lt s.end tick ≡ false = grind (arith, ints) in
    rw (none_ended x.end limit xs tick h.3 (grind (arith, ints)), out) ((λ no. absurd (cc no)), (λ no. absurd (omega arith)))

-- it ends below a tick exactly where its place is below their number
pub passed-at : (from limit : ℤ) (list : List Snapshot) (place : ℕ) (s : Snapshot) (tick : ℤ) → InOrder from limit list → slice_get list place ≡ Some s
    → IsTrue (int_lt s.end tick) ↔ (place < ended_below tick list)
passed-at from limit [] place s tick h is = absurd (cc is)
passed-at from limit (x ∷ xs) zero s tick h is =
    let e : x ≡ s = cc in
    rw (← e) (first_passed from limit x xs tick (int_lt x.end tick) refl h)
passed-at from limit (x ∷ xs) (suc i) s tick h is =
    later_passed from limit x xs i s tick (int_lt x.end tick) refl h is (passed-at x.end limit xs i s tick h.3 is)

-- where there is none at a place, there are no more than so many
pub past-all : (list : List Snapshot) (place : ℕ) → slice_get list place ≡ None → length list ≤ place
past-all [] place is = omega arith
past-all (s ∷ ss) zero is = absurd (cc is)
past-all (s ∷ ss) (suc place) is = let rest = past-all ss place is in omega arith

-- a place up to which all end below a tick is that of the first that doesn't, where there is none
pub none-stands : (list : List Snapshot) (place : ℕ) (tick : ℤ) → slice_get list place ≡ None → place ≤ ended_below tick list
    → place ≡ ended_below tick list
none-stands list place tick is low =
    let all = past-all list place is in
    let ended = ended-within tick list in
    omega arith

-- or where the one there doesn't
pub found-stands : (from limit : ℤ) (list : List Snapshot) (place : ℕ) (s : Snapshot) (tick : ℤ) → InOrder from limit list
    → slice_get list place ≡ Some s → tick ≤ℤ s.end → place ≤ ended_below tick list → place ≡ ended_below tick list
found-stands from limit list place s tick h is stays low =
    let out : int_lt s.end tick ≡ false = grind (arith, ints) in
    let passed = passed-at from limit list place s tick h is in
    elim (cases_lt place (ended_below tick list)) [
      | inl below ↦ absurd (false≢true (sym out ∙ passed.1 below))
      | inr other ↦ omega arith
    ]

-- so it is where the first is that doesn't
pub found-there : (from limit : ℤ) (list : List Snapshot) (place : ℕ) (s : Snapshot) (tick : ℤ) → InOrder from limit list
    → slice_get list place ≡ Some s → tick ≤ℤ s.end → place ≤ ended_below tick list → slice_get list (ended_below tick list) ≡ Some s
found-there from limit list place s tick h is stays low = rw (← found-stands from limit list place s tick h is stays low) is
