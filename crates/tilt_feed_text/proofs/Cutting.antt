-- A line that is cut where it is too long says what the whole line says.
use Rattle.std.proofs.Common.{◌≡◌, ℕ, ◌+◌, true, false, List, [], ◌∷◌, length, nat_lt, refl, ap, take, add-one, arith, inl, inr}
use Rattle.std.proofs.lemmas.Bool.{cases_Bool, ltb-false, ltb-true}
use Rattle.std.proofs.lemmas.List.{length-take-le, take_all}
use Rattle.tilt_feed_text.specs.Said.{content}
use Rattle.tilt_feed_text.specs.declared.pending.TheConstants.{LINE}

-- what is too long stays too long
pub take_long : (limit : ℕ) (x : List ℕ) → nat_lt limit (length x) ≡ true → length (take (limit + 1) x) ≡ limit + 1
take_long limit x long =
    let above = ltb-true limit (length x) long in
    length-take-le (limit + 1) x (omega (arith, above))

-- and what is short isn't cut
pub take_short : (limit : ℕ) (x : List ℕ) → nat_lt limit (length x) ≡ false → take (limit + 1) x ≡ x
take_short limit x short =
    let within = ltb-false limit (length x) short in
    take_all (limit + 1) x (omega (arith, within))

pub content-cut : (inputs : List (List ℕ)) (number : ℕ) (x : List ℕ) → content inputs number (take (LINE + 1) x) ≡ content inputs number x
content-cut inputs number x =
    elim (cases_Bool (nat_lt LINE (length x))) [
      | inl long ↦ rw (long, take_long LINE x long) refl
      | inr short ↦ ap (content inputs number) (take_short LINE x short)
    ]

-- something is left of a line unless it is empty
empty_cut : (limit : ℕ) (x : List ℕ) → take (limit + 1) x ≡ [] → x ≡ []
empty_cut limit [] e = refl
empty_cut limit (b ∷ x) e = absurd (cc (rw (add-one limit) at e))

pub take-empty : (x : List ℕ) → take (LINE + 1) x ≡ [] → x ≡ []
take-empty x e = empty_cut LINE x e
