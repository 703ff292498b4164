-- Lists of snapshots in the order of time.
use Rattle.std.proofs.Common.{IfSome, Option, None, unwrap_or, ◌≡◌, ◌+◌, ◌<◌, get_or, slice_set, ℕ, zero, suc, take, drop, ℤ, ◌<ℤ◌, ◌≤ℤ◌, List, [], ◌∷◌, ◌++◌, Some, refl, arith, slice_get}
use Rattle.std.proofs.Common.{option_map, sym, ◌∙◌, ap, length, ◌-◌, sub-one, neg_ℤ}
use Rattle.std.specs.List.{AllByRecursion}
use Rattle.tilt_base.specs.declared.limits.TheConstants.{WIDE}
use Rattle.std.specs.Option.{ForSome}
use Rattle.std.proofs.lemmas.Int.{ints}
use Rattle.tilt_stream.specs.Snap.{Snapshot, InOrder, Touch, last_end, AreSnapshots, with_value}

-- a row after the end of the last one doesn't start before the first one does
starts_behind : (from limit : ℤ) (x : Snapshot) (xs : List Snapshot) (s : Snapshot) → InOrder from limit (x ∷ xs) → ForSome (last_end (x ∷ xs)) (λ end. end ≤ℤ s.start) → from ≤ℤ s.start
starts_behind from limit x [] s h behind = let b : x.end ≤ℤ s.start = behind x.end refl in omega (arith, ints)
starts_behind from limit x (y ∷ ys) s h behind =
    let b : x.end ≤ℤ s.start = starts_behind x.end limit y ys s h.3 behind in
    omega (arith, ints)

-- what is after the end of the last one may be added
pub InOrder-push : (from limit : ℤ) (xs : List Snapshot) (s : Snapshot) → InOrder from limit xs → from ≤ℤ s.start
    → ForSome (last_end xs) (λ end. end ≤ℤ s.start) → s.start <ℤ s.end → s.end ≤ℤ limit → InOrder from limit (xs ++ s ∷ [])
InOrder-push from limit [] s h low behind width high = (low, width, high, tt)
InOrder-push from limit (x ∷ []) s h low behind width high =
    (h.0, h.1, h.2, (behind x.end refl, width, high, tt))
InOrder-push from limit (x ∷ y ∷ ys) s h low behind width high =
    (h.0, h.1, h.2, InOrder-push x.end limit (y ∷ ys) s h.3 (starts_behind x.end limit y ys s h.3 behind) behind width high)

pub Touch-push : (xs : List Snapshot) (s : Snapshot) → Touch xs → ForSome (last_end xs) (λ end. end ≡ s.start) → Touch (xs ++ s ∷ [])
Touch-push [] s h touches = tt
Touch-push (x ∷ []) s h touches = (touches x.end refl, tt)
Touch-push (x ∷ y ∷ ys) s h touches = (h.0, Touch-push (y ∷ ys) s h.1 touches)

-- a snapshot that starts where the last one ends may be added
pub AreSnapshots-push : (xs : List Snapshot) (s : Snapshot) → AreSnapshots xs → neg_ℤ WIDE ≤ℤ s.start
    → ForSome (last_end xs) (λ end. end ≡ s.start) → s.start <ℤ s.end → s.end ≤ℤ WIDE → AreSnapshots (xs ++ s ∷ [])
AreSnapshots-push xs s h starts touches width ends = record {
  in_order = InOrder-push (neg_ℤ WIDE) WIDE xs s h.in_order starts (λ end is. let e : end ≡ s.start = touches end is in omega (arith, ints)) width ends;
  touch = Touch-push xs s h.touch touches;
}

-- snapshots without those after them are in order and touch
pub InOrder-front : (from limit : ℤ) (xs ys : List Snapshot) → InOrder from limit (xs ++ ys) → InOrder from limit xs
InOrder-front from limit [] ys h = tt
InOrder-front from limit (x ∷ xs) ys h = (h.0, h.1, h.2, InOrder-front x.end limit xs ys h.3)

pub Touch-front : (xs ys : List Snapshot) → Touch (xs ++ ys) → Touch xs
Touch-front [] ys h = tt
Touch-front (x ∷ []) ys h = tt
Touch-front (x ∷ y ∷ xs) ys h = (h.0, Touch-front (y ∷ xs) ys h.1)

pub AreSnapshots-front : (xs ys : List Snapshot) → AreSnapshots (xs ++ ys) → AreSnapshots xs
AreSnapshots-front xs ys h = record {
  in_order = InOrder-front (neg_ℤ WIDE) WIDE xs ys h.in_order;
  touch = Touch-front xs ys h.touch;
}

-- the end of the item in the last place
pub last_end-get : (xs : List Snapshot) → option_map (λ (s : Snapshot). s.end) (slice_get xs (length xs - 1)) ≡ last_end xs
last_end-get [] = refl
last_end-get (x ∷ []) = refl
last_end-get (x ∷ y ∷ ys) = rw sub-one (rw sub-one at (last_end-get (y ∷ ys)))

pub last_end-push : (xs : List Snapshot) (s : Snapshot) → last_end (xs ++ s ∷ []) ≡ Some s.end
last_end-push [] s = refl
last_end-push (x ∷ []) s = refl
last_end-push (x ∷ y ∷ ys) s = last_end-push (y ∷ ys) s

-- no snapshot ends before the lower bound of all
pub last_end-low : (low high : ℤ) (xs : List Snapshot) (end : ℤ) → InOrder low high xs → last_end xs ≡ Some end → low ≤ℤ end
last_end-low low high [] end h is = cc
last_end-low low high (x ∷ []) end h is = let e : x.end ≡ end = cc in omega (arith, ints)
last_end-low low high (x ∷ y ∷ ys) end h is =
    let above : x.end ≤ℤ end = last_end-low x.end high (y ∷ ys) end h.3 is in
    omega (arith, ints)

-- the rest is in order too
pub InOrder-rest : (from limit : ℤ) (x : Snapshot) (xs : List Snapshot) → InOrder from limit (x ∷ xs) → InOrder from limit xs
InOrder-rest from limit x [] h = tt
InOrder-rest from limit x (y ∷ ys) h =
    let above : from ≤ℤ y.start = omega (arith, ints) in
    (above, h.3.1, h.3.2, h.3.3)

-- the end of the last one, once it was added
pub last_end-after_push : (xs ys : List Snapshot) (s : Snapshot) (end : ℤ) → ys ≡ xs ++ s ∷ [] → last_end ys ≡ Some end → end ≡ s.end
last_end-after_push xs ys s end pushed is =
    let e : Some end ≡ Some s.end = sym is ∙ ap last_end pushed ∙ last_end-push xs s in
    cc

-- the end of the last one doesn't rest on what stands for it where there is none
pub unwrap_last_end : (y : Snapshot) (xs : List Snapshot) (a b : ℤ) → unwrap_or (last_end (y ∷ xs)) a ≡ unwrap_or (last_end (y ∷ xs)) b
unwrap_last_end y [] a b = refl
unwrap_last_end y (x ∷ xs) a b = unwrap_last_end x xs a b

-- the same, of an answer that is that end
pub last_end-low_if : (low high : ℤ) (xs : List Snapshot) (found : Option ℤ) → InOrder low high xs → found ≡ last_end xs → IfSome found (λ end. low ≤ℤ end)
last_end-low_if low high xs None h is = tt
last_end-low_if low high xs (Some end) h is = last_end-low low high xs end h (sym is)

-- rows in order that start after an end are in order from there on
pub order-behind : (end from limit : ℤ) (rows : List Snapshot) → AllByRecursion (λ row. end ≤ℤ row.start) rows
    → InOrder from limit rows → InOrder end limit rows
order-behind end from limit [] behind h = tt
order-behind end from limit (r ∷ rows) behind h = (behind.0, h.1, h.2, h.3)

-- rows after the last one
behind_some : (from limit : ℤ) (x : Snapshot) (xs ys : List Snapshot) → InOrder from limit (x ∷ xs)
    → ForSome (last_end (x ∷ xs)) (λ end. InOrder end limit ys) → InOrder from limit (x ∷ xs ++ ys)
behind_some from limit x [] ys h behind = (h.0, h.1, h.2, behind x.end refl)
behind_some from limit x (y ∷ xs) ys h behind = (h.0, h.1, h.2, behind_some x.end limit y xs ys h.3 behind)

-- rows in order from the end of others on are in order after them
pub InOrder-append : (from limit : ℤ) (xs ys : List Snapshot) → InOrder from limit xs → InOrder from limit ys
    → ForSome (last_end xs) (λ end. InOrder end limit ys) → InOrder from limit (xs ++ ys)
InOrder-append from limit [] ys h g behind = g
InOrder-append from limit (x ∷ xs) ys h g behind = behind_some from limit x xs ys h behind

-- rows in order, none of which starts before others end, are in order after them
pub InOrder-after : (from limit : ℤ) (xs ys : List Snapshot) → InOrder from limit xs → InOrder from limit ys
    → ForSome (last_end xs) (λ end. AllByRecursion (λ row. end ≤ℤ row.start) ys) → InOrder from limit (xs ++ ys)
InOrder-after from limit xs ys h g behind = InOrder-append from limit xs ys h g (λ end is. order-behind end from limit ys (behind end is) g)

-- rows without one of them are in order
pub InOrder-removed : (from limit : ℤ) (xs : List Snapshot) (i : ℕ) → InOrder from limit xs → InOrder from limit (take i xs ++ drop (i + 1) xs)
InOrder-removed from limit [] zero h = tt
InOrder-removed from limit [] (suc i) h = let e : suc i + 1 ≡ suc (i + 1) = omega arith in rw e tt
InOrder-removed from limit (x ∷ xs) zero h = InOrder-rest from limit x xs h
InOrder-removed from limit (x ∷ xs) (suc i) h =
    let e : suc i + 1 ≡ suc (i + 1) = omega arith in
    rw e (h.0, h.1, h.2, InOrder-removed x.end limit xs i h.3)

-- rows of which one has another value are in order
pub InOrder-valued : (from limit : ℤ) (xs : List Snapshot) (i : ℕ) (value : Option ℤ) → InOrder from limit xs
    → InOrder from limit (with_value i value xs)
InOrder-valued from limit [] i value h = tt
InOrder-valued from limit (x ∷ xs) zero value h = (h.0, h.1, h.2, h.3)
InOrder-valued from limit (x ∷ xs) (suc i) value h = (h.0, h.1, h.2, InOrder-valued x.end limit xs i value h.3)

-- a row is given another value where the row of its times with that value takes its place
pub set-valued : (xs : List Snapshot) (i : ℕ) (row : Snapshot) (value : Option ℤ) → i < length xs → row ≡ get_or xs i row
    → slice_set xs i (record { start = row.start; end = row.end; value = value }) ≡ with_value i value xs
set-valued [] i row value within is = absurd (omega arith)
set-valued (x ∷ xs) zero row value within is = λ j. record { start = (is j).start; end = (is j).end; value = value } ∷ xs
set-valued (x ∷ xs) (suc i) row value within is = ap (λ (l : List Snapshot). x ∷ l) (set-valued xs i row value (omega arith) is)
