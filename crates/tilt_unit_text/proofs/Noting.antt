-- The numbers of tokens, one token after another.
use Rattle.std.proofs.Common.{◌≡◌, ◌⊎◌, inl, inr, ℕ, zero, suc, ◌+◌, ◌<◌, ◌≤◌, List, [], ◌∷◌, ◌++◌, drop, get_or, length, nat_lt, Bool, true, false, if◌then◌else◌, Option, Some, None, Result, Ok, Err, refl, sym, ap, ◌∙◌, subst, arith}
use Rattle.std.specs.List.{slice_get}
use Rattle.std.proofs.Math.Seq.{drop-cons}
use Rattle.tilt_lexer.specs.declared.token.Token.{Token}
use Rattle.tilt_unit_text.proofs.Numbered.{no_fault}
use Rattle.tilt_unit_text.specs.Numbers.{Progress, and_then, decimals_in, left_over, more_noted, noted, noted_by, number_in, point_fault, unless}
use Rattle.tilt_unit_text.specs.declared.fault.UnitFault.{UnitFault}
use Rattle.tilt_unit_text.specs.declared.fault.UnitFault.TheVariants as fault

abbrev pub start : Progress
start = record { numbers = []; taken = 0 }

-- the numbers so far, with those that are left, are all of them
abbrev pub AreAll : List ℕ → List Token → Progress → List Token → Type 0
AreAll points tokens so_far rest = more_noted points so_far rest ≡ more_noted points start tokens

pub drop_end : {A : Type 0} (xs : List A) (i : ℕ) → length xs ≤ i → drop i xs ≡ []
drop_end [] zero h = refl
drop_end [] (suc i) h = refl
drop_end (x ∷ xs) zero h = absurd (omega arith)
drop_end (x ∷ xs) (suc i) h = drop_end xs i (omega arith)

pub drop_item : (xs : List Token) (i : ℕ) (x : Token) → i < length xs → x ≡ get_or xs i x → drop i xs ≡ x ∷ drop (i + 1) xs
drop_item xs i x h e =
    let d = drop-cons xs i x h in
    let n : i + 1 ≡ suc i = omega arith in
    d ∙ ap (λ (y : Token). y ∷ drop (suc i) xs) (sym e) ∙ ap (λ k. x ∷ drop k xs) (sym n)

get_below : (points : List ℕ) (k p : ℕ) → slice_get points k ≡ Some p → k < length points
get_below [] k p h = absurd (cc h)
get_below (q ∷ points) zero p h = omega arith
get_below (q ∷ points) (suc k) p h = let b = get_below points k p h in omega arith

taken_by : (more : Bool) (m n : ℕ) → m < n → (if more then m + 1 else m) ≤ n
taken_by true m n h = omega arith
taken_by false m n h = omega arith

taken_of : (points : List ℕ) (taken end : ℕ) (o : Option ℕ) → slice_get points taken ≡ o → taken ≤ length points
    → (if nat_lt 0 (decimals_in end o) then taken + 1 else taken) ≤ length points
taken_of points taken end None e h = h
taken_of points taken end (Some p) e h = taken_by (nat_lt 0 (decimals_in end (Some p))) taken (length points) (get_below points taken p e)

pub taken_few : (points : List ℕ) (so_far : Progress) (token : Token) (point : Option ℕ) (next : Progress) → point ≡ slice_get points so_far.taken
    → noted_by so_far token point ≡ Ok next → so_far.taken ≤ length points → next.taken ≤ length points
taken_few points so_far token point next p e h =
    let made : Progress = record {
      numbers = so_far.numbers ++ number_in token.kind (decimals_in token.end point) (token.start + so_far.taken);
      taken = if nat_lt 0 (decimals_in token.end point) then so_far.taken + 1 else so_far.taken;
    } in
    subst (λ (q : Progress). q.taken ≤ length points) (no_fault (point_fault so_far.taken token point) made next e).1
    (taken_of points so_far.taken token.end point (sym p) h)

module _ (points : List ℕ) (tokens : List Token) (so_far : Progress) where
  pub one_fault : (token : Token) (rest : List Token) (point : Option ℕ) (f : UnitFault) → AreAll points tokens so_far (token ∷ rest)
      → point ≡ slice_get points so_far.taken → (f ≡ fault.OutOfMemory) ⊎ (noted_by so_far token point ≡ Err f)
      → (f ≡ fault.OutOfMemory) ⊎ (noted points tokens ≡ Err f)
  one_fault token rest point f all p h = elim h [
    | inl memory ↦ inl memory
    | inr e ↦
        let here : noted_by so_far token (slice_get points so_far.taken) ≡ Err f = subst (λ (o : Option ℕ). noted_by so_far token o ≡ Err f) p e in
        let made : more_noted points start tokens ≡ Err f = sym all ∙ ap (λ (r : Result Progress UnitFault). and_then r (λ next. more_noted points next rest)) here in
        inr (ap (λ (r : Result Progress UnitFault). and_then r (λ all. unless (left_over all.taken (slice_get points all.taken)) all.numbers)) made)
  ]

  pub one_more : (token : Token) (rest : List Token) (point : Option ℕ) (next : Progress) → AreAll points tokens so_far (token ∷ rest)
      → point ≡ slice_get points so_far.taken → noted_by so_far token point ≡ Ok next → AreAll points tokens next rest
  one_more token rest point next all p e =
      let here : noted_by so_far token (slice_get points so_far.taken) ≡ Ok next = subst (λ (o : Option ℕ). noted_by so_far token o ≡ Ok next) p e in
      sym (ap (λ (r : Result Progress UnitFault). and_then r (λ next. more_noted points next rest)) here) ∙ all

  pub all_noted : (o : Option UnitFault) → AreAll points tokens so_far [] → o ≡ left_over so_far.taken (slice_get points so_far.taken)
      → noted points tokens ≡ unless o so_far.numbers
  all_noted o all p =
      ap (λ (r : Result Progress UnitFault). and_then r (λ all. unless (left_over all.taken (slice_get points all.taken)) all.numbers)) (sym all)
      ∙ ap (λ (f : Option UnitFault). unless f so_far.numbers) (sym p)
