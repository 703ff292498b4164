-- A word says one value of `--upto` at most, and what the loop over its parts keeps.
use Rattle.std.proofs.Common.{◌≡◌, ◌≢◌, ◌==◌, ◌&&◌, ◌<◌, ◌+◌, ℕ, zero, suc, ℤ, neg_ℤ, inl, inr, Bool, true, false, if◌then◌else◌, None, Some}
use Rattle.std.proofs.Common.{List, [], ◌∷◌, ◌++◌, length, get_or, take, refl, sym, ap, ◌∙◌, subst, arith}
use Rattle.std.specs.Char.{is_ascii_digit}
use Rattle.std.specs.List.{AllByRecursion, AllZip, after_first, list_all, onto_first, position_or_len}
use Rattle.std.specs.Str.{all_ascii_digits}
use Rattle.std.specs.Str.Parse.{digits_value}
use Rattle.std.proofs.lemmas.Bool.{cases_Bool, false≢true}
use Rattle.std.proofs.lemmas.Bool.Decides.{nat_tests}
use Rattle.std.proofs.lemmas.List.{map_push, take_all, take_more}
use Rattle.std.proofs.lemmas.List.Splits.{length-slice_split, slice_split-cons_no, slice_split-cons_yes}
use Rattle.std.proofs.lemmas.Option.{none-some}
use Rattle.tilt_base.specs.declared.limits.TheConstants.{T}
use Rattle.tilt_base.specs.Number.{integer_spelled, natural_spelled}
use Rattle.tilt_lexer.specs.Word.{IsWord, begins_word, goes_on_word, is_word}
use Rattle.tilt_cli.specs.Number.{IsNumber}
use Rattle.tilt_cli.specs.Upto.{AreCutBindings, CutBinding, IsCutBinding, IsTime, IsUpto, IsUptoWithin, UptoValue, all, cut_binding_of, cut_bindings_of, each, parts_of}
use Rattle.tilt_cli.specs.declared.cut_bind.CutBind.{CutBind}
use Rattle.tilt_cli.proofs.Listed.{same_number}

-- a part says one name and one cut
same_binding : (part : List ℕ) (x y : CutBinding) → IsCutBinding part x → IsCutBinding part y → x ≡ y
same_binding part x y a b =
    let names : x.name ≡ y.name = sym a.spelled ∙ b.spelled in
    let cuts : x.cut ≡ y.cut = same_number (neg_ℤ T) T (neg_ℤ T) T (after_first (λ b. b == 61) part) x.cut y.cut a.time b.time in
    λ i. record { name = names i; cut = cuts i }

same_bindings : (parts : List (List ℕ)) (xs ys : List CutBinding) → AllZip IsCutBinding parts xs → AllZip IsCutBinding parts ys → xs ≡ ys
same_bindings [] [] [] a b = refl
same_bindings [] [] (y ∷ ys) a b = absurd b
same_bindings [] (x ∷ xs) ys a b = absurd a
same_bindings (p ∷ parts) [] ys a b = absurd a
same_bindings (p ∷ parts) (x ∷ xs) [] a b = absurd b
same_bindings (p ∷ parts) (x ∷ xs) (y ∷ ys) a b =
    let heads = same_binding p x y a.0 b.0 in
    let tails = same_bindings parts xs ys a.1 b.1 in
    λ i. heads i ∷ tails i

-- a word that begins as a name does spells no number
no_digit : (c : ℕ) → begins_word c ≡ true → (is_ascii_digit c ≡ false) × (((c == 45) ≡ false) × ((c == 43) ≡ false))
no_digit c begins = (grind (arith, nat_tests), (grind (arith, nat_tests), grind (arith, nat_tests)))

no_natural : (c : ℕ) (cs : List ℕ) → is_ascii_digit c ≡ false → natural_spelled (c ∷ cs) ≡ None
no_natural c cs digit = ap (λ (d : Bool). if d && all_ascii_digits cs then Some (digits_value 10 (c ∷ cs)) else None) digit

no_integer : (c : ℕ) (cs : List ℕ) → begins_word c ≡ true → integer_spelled (c ∷ cs) ≡ None
no_integer c cs begins =
    let d = no_digit c begins in
    rw (d.1.0, d.1.1, no_natural c cs d.0)

no_number : (least greatest : ℤ) (c : ℕ) (cs : List ℕ) (z : ℤ) → begins_word c ≡ true → IsNumber least greatest (c ∷ cs) z → ⊥
no_number least greatest c cs z begins is = none-some z (sym (no_integer c cs begins) ∙ is.spelled)

-- a part with a name begins with it
and_first : (a b : Bool) → (a && b) ≡ true → a ≡ true
and_first true b h = refl
and_first false b h = h

begins_front : (n c : ℕ) (cs : List ℕ) → is_word (take n (c ∷ cs)) ≡ true → begins_word c ≡ true
begins_front zero c cs h = absurd (false≢true h)
begins_front (suc n) c cs h = and_first (begins_word c) (list_all goes_on_word (take n cs)) h

begins_part : (c : ℕ) (cs : List ℕ) (x : CutBinding) → IsCutBinding (c ∷ cs) x → begins_word c ≡ true
begins_part c cs x is = begins_front (position_or_len (λ b. b == 61) (c ∷ cs)) c cs (subst IsWord (sym is.spelled) is.named)

no_empty_part : (x : CutBinding) → IsCutBinding [] x → ⊥
no_empty_part x is = false≢true (subst IsWord (sym is.spelled) is.named)

no_first_empty : (parts : List (List ℕ)) (xs : List CutBinding) → AllZip IsCutBinding ([] ∷ parts) xs → ⊥
no_first_empty parts [] are = are
no_first_empty parts (x ∷ xs) are = no_empty_part x are.0

-- a word that spells a number has no parts with names
no_both_onto : (least greatest : ℤ) (c : ℕ) (cs : List ℕ) (z : ℤ) (parts : List (List ℕ)) (xs : List CutBinding) → IsNumber least greatest (c ∷ cs) z
    → AllZip IsCutBinding (onto_first c parts) xs → ⊥
no_both_onto least greatest c cs z [] [] is are = are
no_both_onto least greatest c cs z [] (x ∷ xs) is are = no_number least greatest c cs z (begins_part c [] x are.0) is
no_both_onto least greatest c cs z (p ∷ parts) [] is are = are
no_both_onto least greatest c cs z (p ∷ parts) (x ∷ xs) is are = no_number least greatest c cs z (begins_part c p x are.0) is

no_both : (least greatest : ℤ) (word : List ℕ) (z : ℤ) (xs : List CutBinding) → IsNumber least greatest word z → AreCutBindings word xs → ⊥
no_both least greatest [] z xs is are = none-some z is.spelled
no_both least greatest (c ∷ cs) z xs is are =
    elim (cases_Bool (c == 44)) [
      | inl comma ↦ no_first_empty (parts_of cs) xs (subst (λ ps. AllZip IsCutBinding ps xs) (slice_split-cons_yes (λ b. b == 44) c cs comma) are)
      | inr other ↦
          no_both_onto least greatest c cs z (parts_of cs) xs is (subst (λ ps. AllZip IsCutBinding ps xs) (slice_split-cons_no (λ b. b == 44) c cs other) are)
    ]

-- a word says one value
pub same_upto : (word : List ℕ) (x y : UptoValue) → IsUpto word x → IsUpto word y → x ≡ y
same_upto word (all x) (all y) a b = ap all (same_number (neg_ℤ T) T (neg_ℤ T) T word x y a b)
same_upto word (all x) (each ys) a b = absurd (no_both (neg_ℤ T) T word x ys a b)
same_upto word (each xs) (all y) a b = absurd (no_both (neg_ℤ T) T word y xs b a)
same_upto word (each xs) (each ys) a b = ap each (same_bindings (parts_of word) xs ys a b)

-- and its cuts lie between their bounds
all_times : (parts : List (List ℕ)) (xs : List CutBinding) → AllZip IsCutBinding parts xs → AllByRecursion (λ (binding : CutBinding). IsTime binding.cut) xs
all_times [] [] are = tt
all_times [] (x ∷ xs) are = absurd are
all_times (p ∷ parts) [] are = absurd are
all_times (p ∷ parts) (x ∷ xs) are = ((are.0.time.low, are.0.time.high), all_times parts xs are.1)

some_parts : (parts : List (List ℕ)) (xs : List CutBinding) → 0 < length parts → AllZip IsCutBinding parts xs → xs ≢ []
some_parts [] xs some are = absurd (omega (arith, some))
some_parts (p ∷ parts) [] some are = absurd are
some_parts (p ∷ parts) (x ∷ xs) some are = λ e. cc

pub upto_within : (word : List ℕ) (x : UptoValue) → IsUpto word x → IsUptoWithin x
upto_within word (all cut) is = (is.low, is.high)
upto_within word (each cuts) are =
    let some : 0 < length (parts_of word) = omega (arith, length-slice_split (λ b. b == 44) word) in
    (some_parts (parts_of word) cuts some are, all_times (parts_of word) cuts are)

-- What the loop keeps: the parts before a place are what was read.
zip_push : (parts : List (List ℕ)) (xs : List CutBinding) (p : List ℕ) (x : CutBinding) → AllZip IsCutBinding parts xs → IsCutBinding p x
    → AllZip IsCutBinding (parts ++ p ∷ []) (xs ++ x ∷ [])
zip_push [] [] p x are is = (is, tt)
zip_push [] (y ∷ xs) p x are is = absurd are
zip_push (q ∷ parts) [] p x are is = absurd are
zip_push (q ∷ parts) (y ∷ xs) p x are is = (are.0, zip_push parts xs p x are.1 is)

zip_at : (parts : List (List ℕ)) (xs : List CutBinding) (place : ℕ) (p : List ℕ) → AllZip IsCutBinding parts xs → place < length parts
    → p ≡ get_or parts place p → (x : CutBinding) × IsCutBinding p x
zip_at [] xs place p are low is = absurd (omega (arith, low))
zip_at (q ∷ parts) [] place p are low is = absurd are
zip_at (q ∷ parts) (x ∷ xs) zero p are low is = (x, subst (λ w. IsCutBinding w x) (sym is) are.0)
zip_at (q ∷ parts) (x ∷ xs) (suc place) p are low is = zip_at parts xs place p are.1 (omega (arith, low)) is

module _ (word : List ℕ) (place : ℕ) (part : List ℕ) (is : (place < length (parts_of word)) × (part ≡ get_or (parts_of word) place part)) where
  part_read : (xs : List CutBinding) (x : CutBinding) → AllZip IsCutBinding (take place (parts_of word)) xs → IsCutBinding part x
      → AllZip IsCutBinding (take (place + 1) (parts_of word)) (xs ++ x ∷ [])
  part_read xs x are one =
      let more : take (place + 1) (parts_of word) ≡ take place (parts_of word) ++ part ∷ [] =
      take_more (parts_of word) place part is.0 ∙ ap (λ (p : List ℕ). take place (parts_of word) ++ p ∷ []) (sym is.1) in
      subst (λ ps. AllZip IsCutBinding ps (xs ++ x ∷ [])) (sym more) (zip_push (take place (parts_of word)) xs part x are one)

  pub part_taken : (binds more : List CutBind) (bind : CutBind) (next : ℕ) → more ≡ binds ++ bind ∷ [] → next ≡ place + 1
      → AllZip IsCutBinding (take place (parts_of word)) (cut_bindings_of binds) → IsCutBinding part (cut_binding_of bind)
      → AllZip IsCutBinding (take next (parts_of word)) (cut_bindings_of more)
  part_taken binds more bind next added one are is =
      let all : cut_bindings_of more ≡ cut_bindings_of binds ++ cut_binding_of bind ∷ [] = ap cut_bindings_of added ∙ map_push cut_binding_of binds bind in
      rw (all, one) (part_read (cut_bindings_of binds) (cut_binding_of bind) are is)

  pub part_refused : ((x : CutBinding) → IsCutBinding part x → ⊥) → (xs : List CutBinding) → AreCutBindings word xs → ⊥
  part_refused none xs are = let found = zip_at (parts_of word) xs place part are is.0 is.1 in none found.0 found.1

pub parts_read : (word : List ℕ) (place : ℕ) (xs : List CutBinding) → place ≡ length (parts_of word)
    → AllZip IsCutBinding (take place (parts_of word)) xs → AreCutBindings word xs
parts_read word place xs end are = subst (λ ps. AllZip IsCutBinding ps xs) (take_all place (parts_of word) (omega (arith, end))) are
