-- Lists that words spell with commas between their elements, and what the loop over a list keeps. The elements so far, and then the elements of the rest, are the elements of the word.
use Rattle.std.proofs.Common.{◌≡◌, ℕ, ◌+◌, ◌<◌, ◌≤◌, ◌==◌, inl, inr, ◌&&◌, false, true, if◌then◌else◌}
use Rattle.std.proofs.Common.{List, [], ◌∷◌, ◌++◌, length, get_or, Some, None, ℤ, pos, refl, sym, ap, ◌∙◌, subst, arith, append_assoc}
use Rattle.std.proofs.lemmas.Bool.{cases_lt, eqb-true}
use Rattle.std.proofs.lemmas.Bool.Decides.{eqb_tells}
use Rattle.std.proofs.lemmas.List.{take_all, drop_all}
use Rattle.std.proofs.lemmas.List.Sums.{split_at_first, passes_at_first}
use Rattle.std.proofs.lemmas.Option.{same_Some, none-some}
use Rattle.std.specs.List.{position_or_len}
use Rattle.std.specs.Prelude.{◌+ℤ◌}
use Rattle.std.specs.Char.{is_ascii_digit}
use Rattle.std.specs.Str.{all_ascii_digits}
use Rattle.std.specs.Str.Parse.{digits_value}
use Rattle.tilt_base.specs.Number.{natural_spelled, integer_spelled}
use Rattle.tilt_cli.specs.Number.{IsNumber, AreListed, AreRising, AreUpTo, before_comma, after_comma}

-- a word spells one number
pub same_number : (least greatest low high : ℤ) (word : List ℕ) (y z : ℤ) → IsNumber least greatest word y →
    IsNumber low high word z → y ≡ z
same_number least greatest low high word y z a b = same_Some y z (sym a.spelled ∙ b.spelled)

-- a number is spelled without a comma
not_all_digits : (front back : List ℕ) → all_ascii_digits (front ++ 44 ∷ back) ≡ false
not_all_digits [] back = refl
not_all_digits (d ∷ ds) back =
    rw (not_all_digits ds back) (elim (is_ascii_digit d) as (λ b. (b && false) ≡ false) [ true ↦ refl | false ↦ refl ])

no_natural : (front back : List ℕ) → natural_spelled (front ++ 44 ∷ back) ≡ None
no_natural [] back = refl
no_natural (d ∷ ds) back = ap (λ t. if t then Some (digits_value 10 (d ∷ (ds ++ 44 ∷ back))) else None) (not_all_digits (d ∷ ds) back)

no_integer : (front back : List ℕ) → integer_spelled (front ++ 44 ∷ back) ≡ None
no_integer [] back = refl
no_integer (c ∷ cs) back =
    elim (eqb_tells c 45) [
      | inl minus ↦ rw (minus.0, no_natural cs back)
      | inr no_minus ↦ elim (eqb_tells c 43) [ inl plus ↦ rw (no_minus.0, plus.0, no_natural cs back) | inr no_plus ↦ rw (no_minus.0, no_plus.0, no_natural (c ∷ cs) back) ]
    ]

pub comma_spells_none : (least greatest : ℤ) (word front back : List ℕ) (z : ℤ) → word ≡ front ++ 44 ∷ back →
    IsNumber least greatest word z → ⊥
comma_spells_none least greatest word front back z e is =
    none-some z (sym (no_integer front back) ∙ ap integer_spelled (sym e) ∙ is.spelled)

abbrev pub HasComma : List ℕ → Type 0
HasComma word = position_or_len (λ b. b == 44) word < length word

-- the parts of a word with a comma
parts : (word : List ℕ) → HasComma word → word ≡ before_comma word ++ 44 ∷ after_comma word
parts word has =
    let at = get_or word (position_or_len (λ b. b == 44) word) 0 in
    let comma : at ≡ 44 = eqb-true at 44 (passes_at_first (λ b. b == 44) word 0 has) in
    split_at_first (λ b. b == 44) word 0 has ∙ ap (λ (b : ℕ). before_comma word ++ b ∷ after_comma word) comma

-- a word without a comma is all before it
pub whole : (word : List ℕ) → length word ≤ position_or_len (λ b. b == 44) word → before_comma word ≡ word
whole word none = take_all (position_or_len (λ b. b == 44) word) word none

nothing_behind : (word : List ℕ) → length word ≤ position_or_len (λ b. b == 44) word → after_comma word ≡ []
nothing_behind word none = drop_all (position_or_len (λ b. b == 44) word + 1) word (omega arith)

-- what spells an element has no comma and isn't empty, and it is one element
pub record IsSpelling {A : Type 0} (Is : ℤ → List ℕ → A → Type 0) : Type 0 where
  pub no_comma : (least : ℤ) (word front back : List ℕ) (x : A) → word ≡ front ++ 44 ∷ back → Is least word x → ⊥
  pub some : (least : ℤ) (x : A) → Is least [] x → ⊥
  pub one : (least : ℤ) (word : List ℕ) (x y : A) → Is least word x → Is least word y → x ≡ y

module _ {A : Type 0} (Is : ℤ → List ℕ → A → Type 0) (least_after : A → ℤ) (spelling : IsSpelling Is) where
  -- a word with a comma spells no element alone
  no_element : (least : ℤ) (word : List ℕ) (x : A) → HasComma word → Is least word x → ⊥
  no_element least word x has is = spelling.no_comma least word (before_comma word) (after_comma word) x (parts word has) is

  -- no bytes spell no elements
  nothing_listed : (least : ℤ) (xs : List A) → AreListed Is least_after least [] xs → ⊥
  nothing_listed least [] are = are
  nothing_listed least (x ∷ []) are = spelling.some least x are
  nothing_listed least (x ∷ next ∷ more) are = spelling.some least x are.0

  -- a word that spells an element alone spells no more of them
  one_or_more : (least : ℤ) (word : List ℕ) (x y next : A) (ys : List A) → Is least word x →
      AreListed Is least_after least word (y ∷ next ∷ ys) → ⊥
  one_or_more least word x y next ys a b =
      elim (cases_lt (position_or_len (λ b. b == 44) word) (length word)) [
        | inl has ↦ no_element least word x has a
        | inr none ↦ nothing_listed (least_after y) (next ∷ ys)
            (subst (λ l. AreListed Is least_after (least_after y) l (next ∷ ys)) (nothing_behind word none) b.1)
      ]

  -- a word spells one list
  pub same_listed : (least : ℤ) (word : List ℕ) (xs ys : List A) → AreListed Is least_after least word xs →
      AreListed Is least_after least word ys → xs ≡ ys
  same_listed least word [] ys a b = absurd a
  same_listed least word (x ∷ xs) [] a b = absurd b
  same_listed least word (x ∷ []) (y ∷ []) a b = λ i. spelling.one least word x y a b i ∷ []
  same_listed least word (x ∷ []) (y ∷ next ∷ ys) a b = absurd (one_or_more least word x y next ys a b)
  same_listed least word (x ∷ next ∷ xs) (y ∷ []) a b = absurd (one_or_more least word y x next xs b a)
  same_listed least word (x ∷ next ∷ xs) (y ∷ other ∷ ys) a b =
      let heads : x ≡ y = spelling.one least (before_comma word) x y a.0 b.0 in
      let tails =
      same_listed (least_after y) (after_comma word) (next ∷ xs) (other ∷ ys)
      (subst (λ l. AreListed Is least_after l (after_comma word) (next ∷ xs)) (ap least_after heads) a.1) b.1 in
      λ i. heads i ∷ tails i

  -- one element before the comma, and the others after it
  pub joined : (least : ℤ) (word : List ℕ) (x : A) (more : List A) → Is least (before_comma word) x →
      AreListed Is least_after (least_after x) (after_comma word) more → AreListed Is least_after least word (x ∷ more)
  joined least word x [] is are = absurd are
  joined least word x (next ∷ more) is are = (is, are)

  pub others : (least : ℤ) (word : List ℕ) (x : A) (all : List A) → HasComma word → Is least (before_comma word) x →
      AreListed Is least_after least word all → (more : List A) × AreListed Is least_after (least_after x) (after_comma word) more
  others least word x [] has is are = absurd are
  others least word x (y ∷ []) has is are = absurd (no_element least word y has are)
  others least word x (y ∷ next ∷ more) has is are =
      let same = spelling.one least (before_comma word) y x are.0 is in
      (next ∷ more, subst (λ l. AreListed Is least_after l (after_comma word) (next ∷ more)) (ap least_after same) are.1)

  -- if no element is before the comma, or if there is no comma and no element, there are no elements
  pub no_first : (least : ℤ) (word : List ℕ) (all : List A) → HasComma word →
      ((x : A) → Is least (before_comma word) x → ⊥) → AreListed Is least_after least word all → ⊥
  no_first least word [] has none are = are
  no_first least word (y ∷ []) has none are = no_element least word y has are
  no_first least word (y ∷ next ∷ more) has none are = none y are.0

  pub no_last : (least : ℤ) (word : List ℕ) (all : List A) → before_comma word ≡ word → ((x : A) → Is least word x → ⊥) →
      AreListed Is least_after least word all → ⊥
  no_last least word [] same none are = are
  no_last least word (y ∷ []) same none are = none y are
  no_last least word (y ∷ next ∷ more) same none are = none y (subst (λ w. Is least w y) same are.0)

pub record ListedBefore {A : Type 0} (Is : ℤ → List ℕ → A → Type 0) (least_after : A → ℤ) (least : ℤ) (word : List ℕ) (xs : List A) (last : ℤ)
    (rest : List ℕ) : Type 0 where
  pub go_on : (more : List A) → AreListed Is least_after last rest more → AreListed Is least_after least word (xs ++ more)
  pub back : (all : List A) → AreListed Is least_after least word all → (more : List A) × AreListed Is least_after last rest more

module _ {A : Type 0} (Is : ℤ → List ℕ → A → Type 0) (least_after : A → ℤ) (spelling : IsSpelling Is) (least : ℤ) (word : List ℕ) where
  pub before_all : ListedBefore Is least_after least word [] least word
  before_all = record { go_on = λ more are. are; back = λ all are. (all, are) }

  module _ (xs : List A) (last : ℤ) (rest : List ℕ) (before : ListedBefore Is least_after least word xs last rest) where
    pub before_next : (x : A) → HasComma rest → Is last (before_comma rest) x →
        ListedBefore Is least_after least word (xs ++ x ∷ []) (least_after x) (after_comma rest)
    before_next x has is = record {
      go_on = λ more are. subst (λ (l : List A). AreListed Is least_after least word l) (sym (append_assoc xs (x ∷ []) more))
          (before.go_on (x ∷ more) (joined Is least_after spelling last rest x more is are));
      back = λ all are. let left = before.back all are in others Is least_after spelling last rest x left.0 has is left.1;
    }

    pub refused_next : HasComma rest → ((x : A) → Is last (before_comma rest) x → ⊥) → (all : List A) →
        AreListed Is least_after least word all → ⊥
    refused_next has none all are = let left = before.back all are in no_first Is least_after spelling last rest left.0 has none left.1

    pub refused_last : length rest ≤ position_or_len (λ b. b == 44) rest → ((x : A) → Is last rest x → ⊥) →
        (all : List A) → AreListed Is least_after least word all → ⊥
    refused_last end none all are =
        let left = before.back all are in no_last Is least_after spelling last rest left.0 (whole rest end) none left.1

-- times that rise
abbrev pub IsTime : ℤ → ℤ → List ℕ → ℤ → Type 0
IsTime greatest = λ low. IsNumber low greatest

abbrev pub after_time : ℤ → ℤ → ℤ
after_time apart = λ number. number +ℤ apart

pub times_spelled : (greatest : ℤ) → IsSpelling (IsTime greatest)
times_spelled greatest = record {
  no_comma = λ least word front back z e is. comma_spells_none least greatest word front back z e is;
  some = λ least z is. none-some z is.spelled;
  one = λ least word y z a b. same_number least greatest least greatest word y z a b;
}

-- numbers up to a greatest one, in any order
abbrev pub IsPart : ℕ → ℤ → List ℕ → ℕ → Type 0
IsPart greatest = λ low word number. IsNumber low (pos greatest) word (pos number)

abbrev pub after_part : ℕ → ℤ
after_part = λ number. pos 0

same_pos : (m n : ℕ) → pos m ≡ pos n → m ≡ n
same_pos m n e = cc

pub parts_spelled : (greatest : ℕ) → IsSpelling (IsPart greatest)
parts_spelled greatest = record {
  no_comma = λ least word front back n e is. comma_spells_none least (pos greatest) word front back (pos n) e is;
  some = λ least n is. none-some (pos n) is.spelled;
  one = λ least word m n a b. same_pos m n (same_number least (pos greatest) least (pos greatest) word (pos m) (pos n) a b);
}

-- each word spells one such list
pub same_rising : (apart greatest least : ℤ) (word : List ℕ) (xs ys : List ℤ) → AreRising apart least greatest word xs
    → AreRising apart least greatest word ys → xs ≡ ys
same_rising apart greatest least word xs ys a b = same_listed (IsTime greatest) (after_time apart) (times_spelled greatest) least word xs ys a b

pub same_parts : (greatest : ℕ) (word : List ℕ) (xs ys : List ℕ) → AreUpTo greatest word xs → AreUpTo greatest word ys → xs ≡ ys
same_parts greatest word xs ys a b = same_listed (IsPart greatest) after_part (parts_spelled greatest) (pos 0) word xs ys a b
