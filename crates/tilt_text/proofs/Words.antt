-- Words up to a mark.
use Rattle.std.proofs.Common.{◌≡◌, ℕ, zero, suc, ◌+◌, ◌-◌, ◌<◌, ◌≤◌, Bool, true, false, if◌then◌else◌, Some, None, refl, ap, ◌∙◌, arith, inl, inr, add-one}
use Rattle.std.proofs.Common.{List, [], ◌∷◌, ◌++◌, length, get_or, take, drop}
use Rattle.std.specs.List.{position, position_or_len}
use Rattle.std.specs.Prelude.{◌==◌}
use Rattle.std.proofs.lemmas.Bool.{cases_Bool, eqb-true}
use Rattle.std.proofs.lemmas.List.{take_rest}
use Rattle.std.proofs.lemmas.List.Quantifiers.{position-Some}
use Rattle.std.proofs.lemmas.Option.{none-some, same_Some}
use Rattle.tilt_base.proofs.Comparisons.{not_found, same_number}
use Rattle.tilt_text.specs.Cut.{onto, until_at}
use Rattle.tilt_text.specs.Step.{◌>>=◌}
use Rattle.tilt_text.proofs.Lacks.{Lacks, lacks-parts}
use Rattle.tilt_text.proofs.Step.{bind_some}

-- the mark at a place
until_place : (mark : ℕ) (bytes : List ℕ) (i : ℕ) → i < length bytes → (get_or bytes i 0 == mark) ≡ true
    → ((k : ℕ) → k < i → (get_or bytes k 0 == mark) ≡ false) → until_at mark bytes ≡ Some (take i bytes, drop (suc i) bytes)
until_place mark [] i h here before = absurd (omega arith)
until_place mark (b ∷ bs) zero h here before = rw here refl
until_place mark (b ∷ bs) (suc i) h here before =
    let other : (b == mark) ≡ false = before 0 (omega arith) in
    rw (other, until_place mark bs i (omega arith) here (λ k l. before (suc k) (omega (arith, l)))) refl

until_whole : (mark : ℕ) (bytes : List ℕ) → length bytes ≤ position_or_len (λ b. b == mark) bytes → until_at mark bytes ≡ None
until_whole mark [] none = refl
until_whole mark (b ∷ bs) none =
    elim (cases_Bool (b == mark)) [
      | inl same ↦ absurd (omega (arith, rw same at none))
      | inr other ↦
          let rest : length bs ≤ position_or_len (λ b. b == mark) bs = omega (arith, rw other at none) in
          rw (other, until_whole mark bs rest) refl
    ]

pub until_found : (mark : ℕ) (bytes : List ℕ) (i : ℕ) → position (λ b. b == mark) bytes ≡ Some i
    → until_at mark bytes ≡ Some (take i bytes, take (length bytes - (i + 1)) (drop (i + 1) bytes))
until_found mark bytes i is =
    let found = position-Some (λ b. b == mark) bytes i 0 is in
    rw (take_rest bytes (i + 1), add-one) (until_place mark bytes i found.0 found.1 found.2)

pub until_none : (mark : ℕ) (bytes : List ℕ) → position (λ b. b == mark) bytes ≡ None → until_at mark bytes ≡ None
until_none mark bytes none = until_whole mark bytes (not_found (position_or_len (λ b. b == mark) bytes) (length bytes) none)

-- a text without the mark is read up to the mark
pub until-front : (mark : ℕ) (front rest : List ℕ) → Lacks mark front → until_at mark (front ++ mark ∷ rest) ≡ Some (front, rest)
until-front mark [] rest h = rw (same_number mark) refl
until-front mark (b ∷ bs) rest h =
    let parts = lacks-parts mark b bs h in
    rw (parts.0, until-front mark bs rest parts.1) refl

-- and what is read comes before the mark
until_head : (mark b : ℕ) (bs front rest : List ℕ) (here : Bool) → (b == mark) ≡ here
    → ((f r : List ℕ) → until_at mark bs ≡ Some (f, r) → bs ≡ f ++ mark ∷ r)
    → (if here then Some ([], bs) else (until_at mark bs >>= onto b)) ≡ Some (front, rest) → b ∷ bs ≡ front ++ mark ∷ rest
until_head mark b bs front rest true is before e =
    let p = same_Some ([], bs) (front, rest) e in
    λ i. ap (λ (q : List ℕ × List ℕ). q.0 ++ eqb-true b mark is i ∷ q.1) p i
until_head mark b bs front rest false is before e =
    let s = bind_some (until_at mark bs) (onto b) (front, rest) e in
    let p = same_Some (b ∷ s.0.0, s.0.1) (front, rest) s.2 in
    ap (λ (t : List ℕ). b ∷ t) (before s.0.0 s.0.1 s.1) ∙ ap (λ (q : List ℕ × List ℕ). q.0 ++ mark ∷ q.1) p

pub front-until : (mark : ℕ) (bytes front rest : List ℕ) → until_at mark bytes ≡ Some (front, rest) → bytes ≡ front ++ mark ∷ rest
front-until mark [] front rest e = absurd (none-some (front, rest) e)
front-until mark (b ∷ bs) front rest e = until_head mark b bs front rest (b == mark) refl (front-until mark bs) e

-- a text without the mark isn't cut
pub until-lone : (mark : ℕ) (bytes : List ℕ) → Lacks mark bytes → until_at mark bytes ≡ None
until-lone mark [] h = refl
until-lone mark (b ∷ bs) h =
    let parts = lacks-parts mark b bs h in
    rw (parts.0, until-lone mark bs parts.1) refl
