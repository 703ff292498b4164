-- Lists, part by part; snapshots after others.
use Rattle.std.proofs.Common.{◌≡◌, ◌≢◌, ◌<◌, ◌+◌, ◌&&◌, Bool, true, false, nat_eq, inl, inr, ℕ, zero, suc, ℤ, neg_ℤ, ◌<ℤ◌, ◌≤ℤ◌, List, [], ◌∷◌, ◌++◌, length, take, get_or, slice_get}
use Rattle.std.proofs.Common.{slice_set, Option, Some, None, MatchOption, Result, Ok, Err}
use Rattle.std.proofs.Common.{refl, sym, ap, ◌∙◌, subst, arith, append_assoc, append-nil}
use Rattle.std.proofs.lemmas.Int.{ints}
use Rattle.std.proofs.lemmas.Option.{none-some, same_Some}
use Rattle.std.proofs.Math.Seq.{take-suc}
use Rattle.std.proofs.lemmas.Bool.{cases_Bool, false≢true}
use Rattle.std.proofs.lemmas.Bool.Decides.{nat_tests}
use Rattle.std.specs.List.{AllByRecursion, list_all}
use Rattle.std.specs.Option.{ForSome}
use Rattle.std.specs.Prelude.{OnOk, OnErr}
use Rattle.std.specs.declared.alloc.AllocError.{AllocError}
use Rattle.tilt_base.proofs.Lists.{all-each, all-slice_get}
use Rattle.tilt_base.specs.declared.limits.TheConstants.{WIDE}
use Rattle.tilt_parts.specs.Parts.{joint}
use Rattle.tilt_stream.proofs.Pieces.{without_last-push, last_start-push}
use Rattle.tilt_stream.specs.Snap.{Snapshot, InOrder, Touch, AreSnapshots, last_end}

-- a list with another element at a place
pub set-own : {X : Type 0} (xs : List X) (i : ℕ) (x : X) → i < length xs → slice_get (slice_set xs i x) i ≡ Some x
set-own [] i x within = absurd (omega arith)
set-own (y ∷ ys) zero x within = refl
set-own (y ∷ ys) (suc i) x within = set-own ys i x (omega arith)

pub set-other : {X : Type 0} (xs : List X) (i j : ℕ) (x : X) → j ≢ i → slice_get (slice_set xs i x) j ≡ slice_get xs j
set-other [] i j x differs = refl
set-other (y ∷ ys) zero zero x differs = absurd (differs refl)
set-other (y ∷ ys) zero (suc j) x differs = refl
set-other (y ∷ ys) (suc i) zero x differs = refl
set-other (y ∷ ys) (suc i) (suc j) x differs = set-other ys i j x (λ same. differs (ap suc same))

pub set-same : {X : Type 0} (xs : List X) (i : ℕ) (x : X) → slice_get xs i ≡ Some x → slice_set xs i x ≡ xs
set-same [] i x is = refl
set-same (y ∷ ys) zero x is = ap (λ z. z ∷ ys) (sym (same_Some y x is))
set-same (y ∷ ys) (suc i) x is = ap (λ zs. y ∷ zs) (set-same ys i x is)

-- what a call gave if it went well, or didn't
pub on_ok : {X Y : Type 0} (result : Result (Unit {0}) AllocError) → (X → Y) → OnOk result X → OnOk result Y
on_ok (Ok u) f x = f x
on_ok (Err e) f x = tt

pub on_err : {X Y : Type 0} (result : Result (Unit {0}) AllocError) → (X → Y) → OnErr result X → OnErr result Y
on_err (Ok u) f x = tt
on_err (Err e) f x = f x

pub get-some : {X : Type 0} (xs : List X) (i : ℕ) → i < length xs → (x : X) × (slice_get xs i ≡ Some x)
get-some [] i within = absurd (omega arith)
get-some (x ∷ xs) zero within = (x, refl)
get-some (x ∷ xs) (suc i) within = get-some xs i (omega arith)

pub get-within : {X : Type 0} (xs : List X) (i : ℕ) → i < length xs → slice_get xs i ≡ None → ⊥
get-within [] i within none = omega arith
get-within (x ∷ xs) zero within none = none-some x (sym none)
get-within (x ∷ xs) (suc i) within none = get-within xs i (omega arith) none

-- snapshots of which one is between others
touch-behind : (xs : List Snapshot) (s : Snapshot) (ys : List Snapshot) → Touch (xs ++ s ∷ ys) → ForSome (last_end xs) (λ end. end ≡ s.start)
touch-behind [] s ys h = λ end same. absurd (cc same)
touch-behind (x ∷ []) s ys h = λ end same. let e : x.end ≡ end = cc same in sym e ∙ h.0
touch-behind (x ∷ y ∷ xs) s ys h = touch-behind (y ∷ xs) s ys h.1

order-behind : (from limit : ℤ) (xs : List Snapshot) (s : Snapshot) (ys : List Snapshot) → InOrder from limit (xs ++ s ∷ ys)
    → (from ≤ℤ s.start) × (s.start <ℤ s.end) × (s.end ≤ℤ limit)
order-behind from limit [] s ys h = (h.0, h.1, h.2)
order-behind from limit (x ∷ xs) s ys h =
    let rest = order-behind x.end limit xs s ys h.3 in
    let a = h.0 in
    let b = h.1 in
    let r = rest.0 in
    (omega (arith, ints), rest.1, rest.2)

-- what has to hold before a snapshot may be pushed
pub record MayFollow (list : List Snapshot) (s : Snapshot) : Type 0 where
  pub touches : ForSome (last_end list) (λ end. end ≡ s.start)
  pub low : neg_ℤ WIDE ≤ℤ s.start
  pub high : s.end ≤ℤ WIDE
  pub some : s.start <ℤ s.end

may-stand : (xs : List Snapshot) (s : Snapshot) (ys : List Snapshot) → AreSnapshots (xs ++ s ∷ ys) → MayFollow xs s
may-stand xs s ys h =
    let placed = order-behind (neg_ℤ WIDE) WIDE xs s ys h.in_order in
    record { touches = touch-behind xs s ys h.touch; low = placed.0; high = placed.2; some = placed.1 }

-- the first of the second list, which goes on from where the last of the first began
abbrev pub at-joint : Snapshot → Snapshot → Snapshot
at-joint last first = record { start = last.start; end = first.end; value = first.value }

module _ (front list rest next : List Snapshot) (last first : Snapshot) (ends : list ≡ front ++ last ∷ []) (begins : next ≡ first ∷ rest) where
  joint_is : joint list next ≡ front ++ at-joint last first ∷ rest
  joint_is = rw (ends, begins, without_last-push front last, last_start-push front last) refl

  pub joint-follows : AreSnapshots (joint list next) → MayFollow front (at-joint last first)
  joint-follows h = may-stand front (at-joint last first) rest (subst AreSnapshots joint_is h)

  pub joint-parted : joint list next ≡ (front ++ at-joint last first ∷ []) ++ rest
  joint-parted = joint_is ∙ sym (append_assoc front (at-joint last first ∷ []) rest)

-- if nothing comes after the cut
pub joint-none : (last : Option Snapshot) (list front : List Snapshot)
    → MatchOption last ((list ≡ []) × (front ≡ [])) (λ last. list ≡ front ++ last ∷ []) → front ≡ joint list []
joint-none None list front is = rw (is.0, is.1) refl
joint-none (Some last) list front is =
    rw (is, without_last-push front last, last_start-push front last) (sym (append-nil front))

-- the pieces, from what was read
pub joined_pieces : (front rest pushed joined : List Snapshot) (last first last_read first_read : Snapshot) → last_read ≡ last → first_read ≡ first
    → pushed ≡ front ++ at-joint last_read first_read ∷ [] → joined ≡ (front ++ at-joint last first ∷ []) ++ rest → pushed ++ rest ≡ joined
joined_pieces front rest pushed joined last first last_read first_read last_is first_is is all =
    ap (λ (l : List Snapshot). l ++ rest) (is ∙ (λ i. front ++ at-joint (last_is i) (first_is i) ∷ [])) ∙ sym all

-- all that pass a test
both : (a b : Bool) → (a && b) ≡ true → (a ≡ true) × (b ≡ true)
both true b is = (refl, is)
both false b is = absurd (false≢true is)

pub all-true : {X : Type 0} (test : X → Bool) (xs : List X) → list_all test xs ≡ true → AllByRecursion (λ x. test x ≡ true) xs
all-true test [] is = tt
all-true test (x ∷ xs) is = let parts = both (test x) (list_all test xs) is in (parts.0, all-true test xs parts.1)

pub true-all : {X : Type 0} (test : X → Bool) (xs : List X) → AllByRecursion (λ x. test x ≡ true) xs → list_all test xs ≡ true
true-all test [] all = refl
true-all test (x ∷ xs) all = rw all.0 (true-all test xs all.1)

-- steps so far, with the next of an order
pub more-steps : (steps order : List ℕ) (i : ℕ) → i < length order → steps ++ take (i + 1) order ≡ (steps ++ take i order) ++ get_or order i 0 ∷ []
more-steps steps order i within =
    let next : i + 1 ≡ suc i = omega arith in
    ap (λ (n : ℕ). steps ++ take n order) next ∙ ap (λ (l : List ℕ). steps ++ l) (take-suc order i 0 within)
    ∙ sym (append_assoc steps (take i order) (get_or order i 0 ∷ []))

-- what holds of the element that changed, and did of the others, holds of all
pub all-after : {X : Type 0} (P : X → Type 0) (old new : List X) (place : ℕ) → AllByRecursion P old
    → ((other : ℕ) → other ≢ place → slice_get new other ≡ slice_get old other) → ForSome (slice_get new place) P → AllByRecursion P new
all-after P old new place all others own = all-each P new (λ i x is. elim (cases_Bool (nat_eq i place)) [
  | inl same ↦ (let here : i ≡ place = grind (arith, nat_tests) in own x (subst (λ (n : ℕ). slice_get new n ≡ Some x) here is))
  | inr other ↦ all-slice_get P old i x all (sym (others i (λ here. false≢true (sym other ∙ (rw here (grind (arith, nat_tests)))))) ∙ is)
])

-- what holds up to a place, and of the element there once it changed, holds up to the next place
pub up-to-next : {X : Type 0} (P : X → Type 0) (old new : List X) (place : ℕ) → ((i : ℕ) → i < place → ForSome (slice_get old i) P)
    → ((other : ℕ) → other ≢ place → slice_get new other ≡ slice_get old other) → ForSome (slice_get new place) P
    → (i : ℕ) → i < place + 1 → ForSome (slice_get new i) P
up-to-next P old new place below others own i within = elim (cases_Bool (nat_eq i place)) [
  | inl same ↦ (λ x is. let here : i ≡ place = grind (arith, nat_tests) in own x (subst (λ (n : ℕ). slice_get new n ≡ Some x) here is))
  | inr other ↦ (λ x is.
      let differs : i ≢ place = λ here. false≢true (sym other ∙ (rw here (grind (arith, nat_tests)))) in
      let lower : i < place = grind (arith, nat_tests) in
      below i lower x (sym (others i differs) ∙ is))
]
