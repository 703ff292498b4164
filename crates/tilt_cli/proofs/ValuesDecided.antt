-- Whether a word spells a number, a list or the value of an option is decided: it spells one, or none.
use Rattle.std.proofs.Common.{◌≡◌, ◌≢◌, ◌⊎◌, inl, inr, ℕ, suc, zero, ◌+◌, ◌<◌, ◌≤◌, ◌==◌, ℤ, pos, negsuc, neg_ℤ, ◌≤ℤ◌, Bool, true, false}
use Rattle.std.proofs.Common.{List, [], ◌∷◌, length, Option, None, Some, refl, sym, ◌∙◌, subst, arith, length-drop}
use lib.Signed.{le_z}
use Rattle.std.specs.Bool.{Decides}
use Rattle.std.specs.List.{AllZip, after_first, before_first, position_or_len}
use Rattle.std.specs.Str.{bytes_eq}
use Rattle.std.proofs.lemmas.Bool.{cases_lt, cases_Bool}
use Rattle.std.proofs.lemmas.Bool.Decides.{Decides-eqb, not_from_Decides}
use Rattle.std.proofs.lemmas.Int.{ints}
use Rattle.std.proofs.lemmas.Option.{same_Some, none-some}
use Rattle.std.proofs.lemmas.Slice.Eq.{bytes_eq-Decides}
use Rattle.tilt_base.specs.declared.limits.TheConstants.{T}
use Rattle.tilt_base.specs.Number.{integer_spelled}
use Rattle.tilt_lexer.specs.Word.{IsWord, is_word}
use Rattle.tilt_cli.specs.Number.{IsNumber, AreListed, AreRising, AreUpTo, before_comma, after_comma}
use Rattle.tilt_cli.specs.Options.{IsValue, text, times, numbers, cuts, span}
use Rattle.tilt_cli.specs.Upto.{CutBinding, IsCutBinding, IsUpto, UptoValue, all, each, parts_of}
use Rattle.tilt_cli.specs.declared.option_table.Shape.{Shape}
use Rattle.tilt_cli.specs.declared.option_table.Shape.TheVariants as shape
use Rattle.tilt_cli.proofs.Listed.{HasComma, IsPart, IsSpelling, IsTime, after_part, after_time, joined, others, no_first, no_last, parts_spelled, same_number, times_spelled, whole}
use Rattle.tilt_cli.proofs.Values.{only_cuts, only_numbers, only_rising, only_text, only_ticks, only_times}

-- something is so, or nothing is
abbrev pub Either : {A : Type 0} → (A → Type 0) → Type 0
Either {A} Is = ((x : A) × Is x) ⊎ ((x : A) → Is x → ⊥)

abbrev pub Known : Type 0 → Type 0
Known P = P ⊎ (P → ⊥)

pub of_test : {P : Type 0} (r : Bool) → Decides r P → Known P
of_test r d = elim (cases_Bool r) [ inl so ↦ inl (d.0 so) | inr not ↦ inr (not_from_Decides r d not) ]

-- equality
pub same_bytes : (xs ys : List ℕ) → Known (xs ≡ ys)
same_bytes xs ys = of_test (bytes_eq xs ys) (bytes_eq-Decides xs ys)

pub same_numbers : (x y : ℕ) → Known (x ≡ y)
same_numbers x y = of_test (x == y) (Decides-eqb x y)

pub same_bools : (x y : Bool) → Known (x ≡ y)
same_bools true true = inl refl
same_bools true false = inr (λ e. cc)
same_bools false true = inr (λ e. cc)
same_bools false false = inl refl

pub both : {P Q : Type 0} → Known P → Known Q → Known (P × Q)
both (inl p) (inl q) = inl (p, q)
both (inl p) (inr n) = inr (λ h. n h.1)
both (inr n) q = inr (λ h. n h.0)

pub known_as : {P Q : Type 0} → (P → Q) → (Q → P) → Known P → Known Q
known_as there back (inl p) = inl (there p)
known_as there back (inr n) = inr (λ q. n (back q))

-- numbers
at_most : (x y : ℤ) → Known (x ≤ℤ y)
at_most x y = elim (cases_Bool (le_z x y)) [ inl so ↦ inl (grind (arith, ints)) | inr not ↦ inr (λ h. grind (arith, ints)) ]

number_of : (least greatest : ℤ) (word : List ℕ) (spelled : Option ℤ) → integer_spelled word ≡ spelled → Either (IsNumber least greatest word)
number_of least greatest word None e = inr (λ z is. none-some z (sym e ∙ is.spelled))
number_of least greatest word (Some z) e =
    elim (both (at_most least z) (at_most z greatest)) [
      | inl h ↦ inl (z, record { spelled = e; low = h.0; high = h.1 })
      | inr n ↦ inr (λ y is. let same = same_Some z y (sym e ∙ is.spelled) in
          n (subst (λ x. least ≤ℤ x) (sym same) is.low, subst (λ x. x ≤ℤ greatest) (sym same) is.high))
    ]

number_or_none : (least greatest : ℤ) (word : List ℕ) → Either (IsNumber least greatest word)
number_or_none least greatest word = number_of least greatest word (integer_spelled word) refl

shorter_behind : (word : List ℕ) → HasComma word → length (after_comma word) < length word
shorter_behind word has = let left = length-drop (position_or_len (λ b. b == 44) word + 1) word in omega (arith, left)

module _ {A : Type 0} (Is : ℤ → List ℕ → A → Type 0) (least_after : A → ℤ) (spelling : IsSpelling Is)
    (one : (least : ℤ) (word : List ℕ) → Either (Is least word)) where
  last_or_none : (least : ℤ) (word : List ℕ) → length word ≤ position_or_len (λ b. b == 44) word → Either (AreListed Is least_after least word)
  last_or_none least word end =
      elim (one least word) [
        | inl x ↦ inl (x.0 ∷ [], x.1)
        | inr none ↦ inr (λ all are. no_last Is least_after spelling least word all (whole word end) none are)
      ]

  more_or_none : (least : ℤ) (word : List ℕ) → HasComma word → (x : A) → Is least (before_comma word) x →
      Either (AreListed Is least_after (least_after x) (after_comma word)) → Either (AreListed Is least_after least word)
  more_or_none least word has x is (inl more) = inl (x ∷ more.0, joined Is least_after spelling least word x more.0 is more.1)
  more_or_none least word has x is (inr none) =
      inr (λ all are. let left = others Is least_after spelling least word x all has is are in none left.0 left.1)

  listed_within : (most : ℕ) (least : ℤ) (word : List ℕ) → length word ≤ most → Either (AreListed Is least_after least word)
  listed_within zero least word fits = last_or_none least word (omega arith)
  listed_within (suc most) least word fits =
      elim (cases_lt (position_or_len (λ b. b == 44) word) (length word)) [
        | inl has ↦ elim (one least (before_comma word)) [
          | inl x ↦
              let shorter = shorter_behind word has in
              more_or_none least word has x.0 x.1 (listed_within most (least_after x.0) (after_comma word) (omega arith))
          | inr none ↦ inr (λ all are. no_first Is least_after spelling least word all has none are)
        ]
        | inr end ↦ last_or_none least word end
      ]

rising_or_none : (apart : ℤ) (word : List ℕ) → Either (AreRising apart (neg_ℤ T) T word)
rising_or_none apart word =
    listed_within (IsTime T) (after_time apart) (times_spelled T) (λ least part. number_or_none least T part) (length word) (neg_ℤ T) word (omega arith)

part_of : (greatest : ℕ) (least : ℤ) (word : List ℕ) (z : ℤ) → IsNumber least (pos greatest) word z → Either (IsPart greatest least word)
part_of greatest least word (pos n) is = inl (n, is)
part_of greatest least word (negsuc n) is =
    inr (λ m other. let same : negsuc n ≡ pos m = same_number least (pos greatest) least (pos greatest) word (negsuc n) (pos m) is other in cc)

pub part_or_none : (greatest : ℕ) (least : ℤ) (word : List ℕ) → Either (IsPart greatest least word)
part_or_none greatest least word =
    elim (number_or_none least (pos greatest) word) [
      | inl z ↦ part_of greatest least word z.0 z.1
      | inr none ↦ inr (λ n is. none (pos n) is)
    ]

parts_or_none : (word : List ℕ) → Either (AreUpTo 4294967295 word)
parts_or_none word =
    listed_within (IsPart 4294967295) after_part (parts_spelled 4294967295) (part_or_none 4294967295) (length word) (pos 0) word (omega arith)

-- the value of `--upto`
binding_or_none : (part : List ℕ) → Either (IsCutBinding part)
binding_or_none part =
    elim (same_bools (is_word (before_first (λ b. b == 61) part)) true) [
      | inl named ↦ elim (number_or_none (neg_ℤ T) T (after_first (λ b. b == 61) part)) [
        | inl time ↦ inl (
          record { name = before_first (λ b. b == 61) part; cut = time.0 },
          record { spelled = refl; named = named; time = time.1 },
        )
        | inr none ↦ inr (λ x is. none x.cut is.time)
      ]
      | inr no_word ↦ inr (λ x is. no_word (subst IsWord (sym is.spelled) is.named))
    ]

no_first_part : (part : List ℕ) (parts : List (List ℕ)) → ((x : CutBinding) → IsCutBinding part x → ⊥) → (xs : List CutBinding)
    → AllZip IsCutBinding (part ∷ parts) xs → ⊥
no_first_part part parts none [] are = are
no_first_part part parts none (x ∷ xs) are = none x are.0

no_more_parts : (part : List ℕ) (parts : List (List ℕ)) → ((xs : List CutBinding) → AllZip IsCutBinding parts xs → ⊥) → (xs : List CutBinding)
    → AllZip IsCutBinding (part ∷ parts) xs → ⊥
no_more_parts part parts none [] are = are
no_more_parts part parts none (x ∷ xs) are = none xs are.1

bindings_or_none : (parts : List (List ℕ)) → Either (AllZip IsCutBinding parts)
bindings_or_none [] = inl ([], tt)
bindings_or_none (part ∷ parts) =
    elim (binding_or_none part) [
      | inl one ↦ elim (bindings_or_none parts) [ inl more ↦ inl (one.0 ∷ more.0, (one.1, more.1)) | inr none ↦ inr (no_more_parts part parts none) ]
      | inr none ↦ inr (no_first_part part parts none)
    ]

neither : (word : List ℕ) → ((z : ℤ) → IsNumber (neg_ℤ T) T word z → ⊥) → ((xs : List CutBinding) → AllZip IsCutBinding (parts_of word) xs → ⊥)
    → (x : UptoValue) → IsUpto word x → ⊥
neither word no_time no_names (all time) is = no_time time is
neither word no_time no_names (each names) are = no_names names are

upto_or_none : (word : List ℕ) → Either (IsUpto word)
upto_or_none word =
    elim (number_or_none (neg_ℤ T) T word) [
      | inl time ↦ inl (all time.0, time.1)
      | inr no_time ↦ elim (bindings_or_none (parts_of word)) [
        | inl names ↦ inl (each names.0, names.1)
        | inr no_names ↦ inr (neither word no_time no_names)
      ]
    ]

-- the value of an option
pub some_bytes : (bytes : List ℕ) → Known (bytes ≢ [])
some_bytes [] = inr (λ some. some refl)
some_bytes (b ∷ bytes) = inl (λ e. cc)

pub value_or_none : (form : Shape) (word : List ℕ) → Either (IsValue form word)
value_or_none shape.Flag word = inr (λ value is. is)
value_or_none shape.Text word =
    elim (some_bytes word) [ inl some ↦ inl (text word, (refl, some)) | inr empty ↦ inr (λ value is. empty (only_text word value is).0) ]
value_or_none shape.Times word =
    elim (rising_or_none (pos 0) word) [ inl x ↦ inl (times x.0, x.1) | inr none ↦ inr (λ value is. let p = only_times word value is in none p.0 p.1) ]
value_or_none shape.RisingTimes word =
    elim (rising_or_none (pos 1) word) [ inl x ↦ inl (times x.0, x.1) | inr none ↦ inr (λ value is. let p = only_rising word value is in none p.0 p.1) ]
value_or_none shape.Numbers word =
    elim (parts_or_none word) [ inl x ↦ inl (numbers x.0, x.1) | inr none ↦ inr (λ value is. let p = only_numbers word value is in none p.0 p.1) ]
value_or_none shape.Cuts word =
    elim (upto_or_none word) [ inl x ↦ inl (cuts x.0, x.1) | inr none ↦ inr (λ value is. let p = only_cuts word value is in none p.0 p.1) ]
value_or_none shape.Ticks word =
    elim (part_or_none 8000000000000000000 (pos 0) word) [
      | inl x ↦ inl (span x.0, x.1)
      | inr none ↦ inr (λ value is. let p = only_ticks word value is in none p.0 p.1)
    ]
