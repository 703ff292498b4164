-- Words up to a blank.
use Rattle.std.proofs.Common.{◌≡◌, ℕ, zero, suc, ◌+◌, ◌-◌, ◌<◌, ◌≤◌, Bool, true, false, Some, None, refl, arith, inl, inr, add-one}
use Rattle.std.proofs.Common.{List, [], ◌∷◌, length, get_or, take, drop}
use Rattle.std.specs.List.{position, position_or_len}
use Rattle.std.specs.Prelude.{◌==◌, ◌||◌}
use Rattle.std.proofs.lemmas.Bool.{cases_Bool}
use Rattle.std.proofs.lemmas.List.{take_rest}
use Rattle.std.proofs.lemmas.List.Quantifiers.{position-Some}
use Rattle.tilt_base.proofs.Comparisons.{not_found}
use Rattle.tilt_edits.specs.Edits.{until_blank}

abbrev blank : ℕ → Bool
blank byte = byte == 32 || byte == 9

-- the blank at a place
blank_place : (bytes : List ℕ) (i : ℕ) → i < length bytes → blank (get_or bytes i 0) ≡ true
    → ((k : ℕ) → k < i → blank (get_or bytes k 0) ≡ false) → until_blank bytes ≡ Some (take i bytes, drop (suc i) bytes)
blank_place [] i h here before = absurd (omega arith)
blank_place (b ∷ bs) zero h here before = rw here refl
blank_place (b ∷ bs) (suc i) h here before =
    let other : blank b ≡ false = before 0 (omega arith) in
    rw (other, blank_place bs i (omega arith) here (λ k l. before (suc k) (omega (arith, l)))) refl

blank_whole : (bytes : List ℕ) → length bytes ≤ position_or_len blank bytes → until_blank bytes ≡ None
blank_whole [] none = refl
blank_whole (b ∷ bs) none =
    elim (cases_Bool (blank b)) [
      | inl same ↦ absurd (omega (arith, rw same at none))
      | inr other ↦
          let rest : length bs ≤ position_or_len blank bs = omega (arith, rw other at none) in
          rw (other, blank_whole bs rest) refl
    ]

pub blank_found : (bytes : List ℕ) (i : ℕ) → position blank bytes ≡ Some i
    → until_blank bytes ≡ Some (take i bytes, take (length bytes - (i + 1)) (drop (i + 1) bytes))
blank_found bytes i is =
    let found = position-Some blank bytes i 0 is in
    rw (take_rest bytes (i + 1), add-one) (blank_place bytes i found.0 found.1 found.2)

pub blank_none : (bytes : List ℕ) → position blank bytes ≡ None → until_blank bytes ≡ None
blank_none bytes none = blank_whole bytes (not_found (position_or_len blank bytes) (length bytes) none)
