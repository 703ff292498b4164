-- Parts of a text that come after their lengths.
use Rattle.std.proofs.Common.{◌≡◌, ℕ, ◌+◌, ◌<◌, ◌≤◌, ◌^◌, List, [], ◌∷◌, ◌++◌, length, Option, None, Some, MatchOption, ℤ, pos, negsuc, false, refl, sym, ap, ◌∙◌, arith, append_assoc, subst}
use Rattle.std.specs.Fmt.{decimal}
use Rattle.std.specs.Str.Parse.{AllDigits}
use Rattle.std.proofs.lemmas.Fmt.{decimal_injective, decimal_is_IsNumeral, decimal_nonempty}
use Rattle.std.proofs.lemmas.List.{length-append}
use Rattle.std.proofs.lemmas.Option.{none-some, same_Some}
use Rattle.std.proofs.lemmas.Str.Parse.{digit_from_value}
use Rattle.std.specs.Str.{bytes_eq}
use Rattle.tilt_base.proofs.Comparisons.{same_bytes}
use Rattle.tilt_keyed_state.specs.Natural.{natural}
use Rattle.tilt_keyed_state.specs.Spelling.{part_text}
use Rattle.tilt_text.proofs.Lacks.{decimal_lacks}
use Rattle.tilt_text.proofs.Numbers.{shortest-signed, signed-shortest}
use Rattle.tilt_text.proofs.Words.{front-until, until-front}
use Rattle.tilt_text.specs.Cut.{until_at}
use Rattle.tilt_text.specs.Spelled.{shortest}

-- what comes first in a list, and what comes after it
abbrev first_or : ℕ → List ℕ → ℕ
first_or n [] = n
first_or n (x ∷ xs) = x

abbrev behind_first : List ℕ → List ℕ
behind_first [] = []
behind_first (x ∷ xs) = xs

pub same_first : (x y : ℕ) (xs ys : List ℕ) → x ∷ xs ≡ y ∷ ys → x ≡ y
same_first x y xs ys e = ap (first_or 0) e

pub same_behind : (x y : ℕ) (xs ys : List ℕ) → x ∷ xs ≡ y ∷ ys → xs ≡ ys
same_behind x y xs ys e = ap behind_first e

-- lists that are the same, cut at the same place
pub cut_same : (xs ys r s : List ℕ) → length xs ≡ length ys → xs ++ r ≡ ys ++ s → (xs ≡ ys) × (r ≡ s)
cut_same [] [] r s many e = (refl, e)
cut_same [] (y ∷ ys) r s many e = absurd (omega (arith, many))
cut_same (x ∷ xs) [] r s many e = absurd (omega (arith, many))
cut_same (x ∷ xs) (y ∷ ys) r s many e =
    let fewer : length xs ≡ length ys = omega (arith, many) in
    let rest = cut_same xs ys r s fewer (same_behind x y (xs ++ r) (ys ++ s) e) in
    let here = same_first x y (xs ++ r) (ys ++ s) e in
    (λ i. here i ∷ rest.0 i, rest.1)

-- a part, with what comes after it
pub part_shape : (part rest : List ℕ) → part_text part ++ rest ≡ decimal (length part) ++ 10 ∷ (part ++ 10 ∷ rest)
part_shape part rest =
    append_assoc (decimal (length part)) (10 ∷ (part ++ 10 ∷ [])) rest
    ∙ ap (λ (t : List ℕ). decimal (length part) ++ 10 ∷ t) (append_assoc part (10 ∷ []) rest)

-- it is shorter than the text
pub part_shorter : (bytes part rest : List ℕ) → bytes ≡ part_text part ++ rest → length part + length rest < length bytes
part_shorter bytes part rest e =
    let whole = ap length (e ∙ part_shape part rest) in
    let front = length-append (decimal (length part)) (10 ∷ (part ++ 10 ∷ rest)) in
    let back = length-append part (10 ∷ rest) in
    omega (arith, whole, front, back)

-- the length is read
pub length_read : (part rest : List ℕ) → length part < 2 ^ 63 → until_at 10 (part_text part ++ rest) ≡ Some (decimal (length part), part ++ 10 ∷ rest)
length_read part rest small =
    ap (until_at 10) (part_shape part rest)
    ∙ until-front 10 (decimal (length part)) (part ++ 10 ∷ rest) (decimal_lacks 10 (omega arith) (length part) (omega (arith, small)))

pub length_number : (n : ℕ) → n < 2 ^ 63 → shortest (decimal n) ≡ Some (pos n)
length_number n small = shortest-signed (pos n) (record { sfits = omega (arith, small) })

-- a text begins with one part only
pub parts_apart : (p q r s : List ℕ) → length p < 2 ^ 63 → length q < 2 ^ 63 → part_text p ++ r ≡ part_text q ++ s → (p ≡ q) × (r ≡ s)
parts_apart p q r s few less e =
    let read = sym (length_read p r few) ∙ ap (until_at 10) e ∙ length_read q s less in
    let both = same_Some (decimal (length p), p ++ 10 ∷ r) (decimal (length q), q ++ 10 ∷ s) read in
    let many = decimal_injective (length p) (length q) (omega (arith, few)) (omega (arith, less)) (ap (λ (t : List ℕ × List ℕ). t.0) both) in
    let cut = cut_same p q (10 ∷ r) (10 ∷ s) many (ap (λ (t : List ℕ × List ℕ). t.1) both) in
    (cut.0, same_behind 10 10 r s cut.1)

-- a part begins with a digit
digit_first : (b : ℕ) (text digits rest : List ℕ) → 58 ≤ b → 0 < length digits → AllDigits 10 digits → ¬ (b ∷ text ≡ digits ++ rest)
digit_first b text [] rest high some all = λ _. absurd (omega (arith, some))
digit_first b text (d ∷ ds) rest high some all = λ e.
    let range = digit_from_value d all.0 in
    let here = same_first b d text (ds ++ rest) e in
    absurd (omega (arith, here, high))

pub not_part : (b : ℕ) (text part rest : List ℕ) → 58 ≤ b → length part < 2 ^ 63 → ¬ (b ∷ text ≡ part_text part ++ rest)
not_part b text part rest high small = λ e.
    digit_first b text (decimal (length part)) (10 ∷ (part ++ 10 ∷ rest)) high (decimal_nonempty (length part) (omega (arith, small)))
    (decimal_is_IsNumeral (length part) (omega (arith, small))).0.1 (e ∙ part_shape part rest)

-- what is known of a result in two cases, by what is known of it otherwise
pub match_into : {T : Type 0} (found : Option T) (A B : Type 0) (P Q : T → Type 0) → (A → B) → ((x : T) → P x → Q x) → MatchOption found A P → MatchOption found B Q
match_into None A B P Q f g m = f m
match_into (Some x) A B P Q f g m = g x m

-- Bytes that are the text of a part, and more.
module _ (bytes part rest : List ℕ) (small : length bytes < 2 ^ 63) (is : bytes ≡ part_text part ++ rest) where
  few : length part < 2 ^ 63
  few = let p = part_shorter bytes part rest is in omega (arith, p, small)

  read : until_at 10 bytes ≡ Some (decimal (length part), part ++ 10 ∷ rest)
  read = ap (until_at 10) is ∙ length_read part rest few

  -- they are read so
  pub has_line : ¬ (until_at 10 bytes ≡ None)
  has_line none = none-some (decimal (length part), part ++ 10 ∷ rest) (sym none ∙ read)

  pub word_is : (word after : List ℕ) → until_at 10 bytes ≡ Some (word, after) → (word ≡ decimal (length part)) × (after ≡ part ++ 10 ∷ rest)
  word_is word after found =
      let both = same_Some (word, after) (decimal (length part), part ++ 10 ∷ rest) (sym found ∙ read) in
      (ap (λ (t : List ℕ × List ℕ). t.0) both, ap (λ (t : List ℕ × List ℕ). t.1) both)

  pub size_is : (word after : List ℕ) → until_at 10 bytes ≡ Some (word, after) → word ≡ decimal (length part)
  size_is word after found = (word_is word after found).0

  pub part_small : length part < 2 ^ 63
  part_small = few

-- bytes that are read so are the text of a part, and more
pub part_of : (bytes word after part rest : List ℕ) → until_at 10 bytes ≡ Some (word, after) → word ≡ decimal (length part)
    → after ≡ part ++ 10 ∷ rest → bytes ≡ part_text part ++ rest
part_of bytes word after part rest found size e =
    front-until 10 bytes word after found
    ∙ ap (λ (w : List ℕ). w ++ 10 ∷ after) size
    ∙ ap (λ (t : List ℕ). decimal (length part) ++ 10 ∷ t) e
    ∙ sym (part_shape part rest)

-- which number a word spells
pub size_read : (word : List ℕ) (n : ℕ) → n < 2 ^ 63 → word ≡ decimal n → shortest word ≡ Some (pos n)
size_read word n small e = ap shortest e ∙ length_number n small

-- a number without a sign that a word spells
pub natural_spelled : (word : List ℕ) (z : ℤ) (n : ℕ) → Some z ≡ shortest word → natural z ≡ Some n → (word ≡ decimal n) × (n < 2 ^ 63)
natural_spelled word (pos m) n number is =
    let read = signed-shortest word (pos m) (sym number) in
    let same = same_Some m n is in
    subst (λ (k : ℕ). (word ≡ decimal k) × (k < 2 ^ 63)) same (read.0, omega (arith, read.1.sfits))
natural_spelled word (negsuc m) n number is = absurd (none-some n is)

pub natural_none : (word : List ℕ) (z : ℤ) → Some z ≡ shortest word → natural z ≡ None → (n : ℕ) → n < 2 ^ 63 → ¬ (word ≡ decimal n)
natural_none word z number none n small e =
    let same = same_Some z (pos n) (number ∙ size_read word n small e) in
    none-some n (sym none ∙ ap natural same)

pub natural_of : (word : List ℕ) (z : ℤ) (found : Option ℕ) → Some z ≡ shortest word → found ≡ natural z
    → MatchOption found ((n : ℕ) → n < 2 ^ 63 → ¬ (word ≡ decimal n)) (λ n. (word ≡ decimal n) × (n < 2 ^ 63))
natural_of word z None number is = natural_none word z number (sym is)
natural_of word z (Some n) number is = natural_spelled word z n number (sym is)

-- bytes that a test finds different
pub differ : (x y : List ℕ) → false ≡ bytes_eq x y → ¬ (x ≡ y)
differ x y other e = cc (other ∙ ap (bytes_eq x) (sym e) ∙ same_bytes x)
