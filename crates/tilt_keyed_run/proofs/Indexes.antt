-- Keys in an order, as an index has them.
use mathlib.Core.Path.{fun_ext}
use Rattle.std.proofs.Common.{◌≡◌, ℕ, ◌+◌, ◌≤◌, Bool, true, false, List, [], ◌∷◌, ◌++◌, length, map, None, Some, refl, sym, ap, ◌∙◌, arith, inl, inr, nat_lt, ◌<◌, subst}
use Rattle.std.proofs.lemmas.Bool.{cases_Bool, ltb-true}
use Rattle.std.proofs.lemmas.Option.{same_Some}
use Rattle.std.proofs.lemmas.List.{length-map}
use Rattle.std.specs.List.{list_any, position, position_or_len}
use Rattle.std.specs.Str.{bytes_eq}
use Rattle.std.proofs.lemmas.Slice.Eq.{bytes_eq-Decides}
use Rattle.tilt_base.proofs.Comparisons.{not_found}
use Rattle.tilt_keyed_line.specs.Feeds.{KeyFeed, after_own, given}
use Rattle.tilt_keyed_run.specs.Output.{is_known}
use Rattle.tilt_keyed_run.specs.Runs.{AreKeysOf}
use Rattle.tilt_keyed_run.specs.declared.one_key.OneKey.{OneKey}

-- the place of what a test is of
place_map : {X Y : Type 0} (test : Y → Bool) (of : X → Y) (xs : List X) → position_or_len test (map of xs) ≡ position_or_len (λ x. test (of x)) xs
place_map test of [] = refl
place_map test of (x ∷ xs) =
    elim (cases_Bool (test (of x))) [
      | inl here ↦ rw here refl
      | inr other ↦ rw other (ap (λ (n : ℕ). 1 + n) (place_map test of xs))
    ]

pub position-map : {X Y : Type 0} (test : Y → Bool) (of : X → Y) (xs : List X) → position test (map of xs) ≡ position (λ x. test (of x)) xs
position-map test of xs = rw (place_map test of xs, length-map xs of) refl

-- what is at no place isn't there
unfound : {X : Type 0} (test : X → Bool) (xs : List X) → length xs ≤ position_or_len test xs → list_any test xs ≡ false
unfound test [] none = refl
unfound test (x ∷ xs) none =
    elim (cases_Bool (test x)) [
      | inl here ↦ absurd (omega (arith, rw here at none))
      | inr other ↦ let less : length xs ≤ position_or_len test xs = omega (arith, rw other at none) in rw other (unfound test xs less)
    ]

pub nowhere-unfound : {X : Type 0} (test : X → Bool) (xs : List X) → position test xs ≡ None → list_any test xs ≡ false
nowhere-unfound test xs none = unfound test xs (not_found (position_or_len test xs) (length xs) none)

-- a place is one of the list
pub place-below : {X : Type 0} (test : X → Bool) (xs : List X) (i : ℕ) → position test xs ≡ Some i → i < length xs
place-below test xs i found =
    elim (cases_Bool (nat_lt (position_or_len test xs) (length xs))) [
      | inl inside ↦ subst (λ (n : ℕ). n < length xs) (same_Some _ _ (rw inside at found)) (ltb-true (position_or_len test xs) (length xs) inside)
      | inr beyond ↦ absurd (cc (rw beyond at found))
    ]

-- the keys of runs are those of their feeds
pub keys-named : {R Recipe : Type 0} (is : R → Recipe → List (List ℕ) → Type 0) (recipe : Recipe) (ones : List (OneKey R)) (feeds : List KeyFeed)
    → AreKeysOf is ones recipe feeds → map (λ feed. feed.key) feeds ≡ map (λ one. one.key.items) ones
keys-named is recipe [] [] are = refl
keys-named is recipe [] (feed ∷ feeds) are = absurd are
keys-named is recipe (one ∷ ones) [] are = absurd are
keys-named is recipe (one ∷ ones) (feed ∷ feeds) are = rw (sym are.0.key_is, keys-named is recipe ones feeds are.1) refl

flipped : (x y : List ℕ) → bytes_eq x y ≡ bytes_eq y x
flipped x y =
    elim (cases_Bool (bytes_eq x y)) [
      | inl same ↦ subst (λ (z : List ℕ). bytes_eq x z ≡ bytes_eq z x) ((bytes_eq-Decides x y).0 same) refl
      | inr other ↦
          elim (cases_Bool (bytes_eq y x)) [
            | inl same ↦ subst (λ (z : List ℕ). bytes_eq z y ≡ bytes_eq y z) ((bytes_eq-Decides y x).0 same) refl
            | inr too ↦ other ∙ sym too
          ]
    ]

-- the place of a key among its runs is its place in the index
pub place-of : {R Recipe : Type 0} (is : R → Recipe → List (List ℕ) → Type 0) (recipe : Recipe) (ones : List (OneKey R)) (feeds : List KeyFeed) (places : List (List ℕ))
    (key : List ℕ) → AreKeysOf is ones recipe feeds → places ≡ map (λ feed. feed.key) feeds
    → position (bytes_eq key) places ≡ position (λ one. bytes_eq one.key.items key) ones
place-of is recipe ones feeds places key are named =
    rw (named, keys-named is recipe ones feeds are) (position-map (bytes_eq key) (λ (one : OneKey _). one.key.items) ones
    ∙ ap (λ (test : OneKey _ → Bool). position test ones) (fun_ext (λ (one : OneKey _). flipped key one.key.items)))

-- a line more changes no keys, unless it has a new one
pub given-named : (line : List ℕ) (feeds : List KeyFeed) → map (λ feed. feed.key) (map (given line) feeds) ≡ map (λ feed. feed.key) feeds
given-named line [] = refl
given-named line (feed ∷ feeds) = rw (given-named line feeds) refl

pub known-named : (key : List ℕ) (shared : List (List ℕ)) (line : List ℕ) (feeds : List KeyFeed) → is_known key feeds ≡ true
    → map (λ feed. feed.key) (after_own key shared line feeds) ≡ map (λ feed. feed.key) feeds
known-named key shared line [] known = absurd (cc known)
known-named key shared line (feed ∷ feeds) known =
    elim (cases_Bool (bytes_eq feed.key key)) [
      | inl here ↦ rw here refl
      | inr other ↦ rw (other, known-named key shared line feeds (rw other at known)) refl
    ]

pub new-named : (key : List ℕ) (shared : List (List ℕ)) (line : List ℕ) (feeds : List KeyFeed) → is_known key feeds ≡ false
    → map (λ feed. feed.key) (after_own key shared line feeds) ≡ map (λ feed. feed.key) feeds ++ key ∷ []
new-named key shared line [] new = refl
new-named key shared line (feed ∷ feeds) new =
    elim (cases_Bool (bytes_eq feed.key key)) [
      | inl here ↦ absurd (cc (rw here at new))
      | inr other ↦ rw (other, new-named key shared line feeds (rw other at new)) refl
    ]
