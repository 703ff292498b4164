-- Lines of three fields without quotes.
use Rattle.std.proofs.Common.{◌≡◌, ℕ, zero, suc, ◌+◌, ◌-◌, ◌<◌, true, false, ◌==◌, List, [], ◌∷◌, ◌++◌, length, get_or, take, drop}
use Rattle.std.proofs.Common.{Some, map, refl, ap, ◌∙◌, arith, add-one}
use Rattle.std.specs.List.{list_any, position}
use Rattle.std.proofs.lemmas.Bool.{or_parts}
use Rattle.std.proofs.lemmas.Bool.Decides.{nat_tests}
use Rattle.std.proofs.lemmas.List.{take_rest}
use Rattle.std.proofs.lemmas.List.Folds.{list_any-append}
use Rattle.std.proofs.lemmas.List.Quantifiers.{position-Some}
use Rattle.csv.specs.Records.{trimmed}
use Rattle.tilt_text.proofs.Lacks.{Lacks, lacks-more}
use Rattle.tilt_text.proofs.Words.{until-front, until-lone}
use Rattle.tilt_reading_lines.specs.Plain.{CleanBefore, ends_field, is_plain, is_special, starts_with_mark, without_return, words}
use Rattle.tilt_reading_lines.specs.Records.{fields_of_line}
use Rattle.tilt_reading_lines.proofs.PlainLines.{plain_fields}
use Rattle.tilt_reading_lines.proofs.PlainWords.{only_word, word_before}

-- a delimiter at a place, and no delimiter or special byte before it
clean_place : (delimiter : ℕ) (bytes : List ℕ) (at : ℕ) → at < length bytes → get_or bytes at 0 ≡ delimiter
    → ((k : ℕ) → k < at → ends_field delimiter (get_or bytes k 0) ≡ false) → CleanBefore delimiter bytes (take at bytes) (drop (suc at) bytes)
clean_place delimiter [] at within here before = absurd (omega arith)
clean_place delimiter (b ∷ bs) zero within here before = (ap (λ (c : ℕ). c ∷ bs) here, refl)
clean_place delimiter (b ∷ bs) (suc at) within here before =
    let rest = clean_place delimiter bs at (omega arith) here (λ k low. before (suc k) (omega (arith, low))) in
    (ap (λ (tail : List ℕ). b ∷ tail) rest.0, rw (before 0 (omega arith), rest.1) refl)

pub clean_found : (delimiter : ℕ) (bytes : List ℕ) (at : ℕ) → position (ends_field delimiter) bytes ≡ Some at → get_or bytes at 0 ≡ delimiter
    → CleanBefore delimiter bytes (take at bytes) (take (length bytes - (at + 1)) (drop (at + 1) bytes))
clean_found delimiter bytes at is here =
    let found = position-Some (ends_field delimiter) bytes at 0 is in
    rw (take_rest bytes (at + 1), add-one) (clean_place delimiter bytes at found.0 here found.2)

-- a clean word has no delimiter
clean_lacks : (delimiter : ℕ) (word : List ℕ) → list_any (ends_field delimiter) word ≡ false → Lacks delimiter word
clean_lacks delimiter [] clean = refl
clean_lacks delimiter (c ∷ cs) clean =
    let parts = or_parts (ends_field delimiter c) (list_any (ends_field delimiter) cs) clean in
    lacks-more delimiter c cs (or_parts (c == delimiter) (is_special c) parts.0).0 (clean_lacks delimiter cs parts.1)

-- and no special byte
clean_plain : (delimiter : ℕ) (word : List ℕ) → list_any (ends_field delimiter) word ≡ false → list_any is_special word ≡ false
clean_plain delimiter [] clean = refl
clean_plain delimiter (c ∷ cs) clean =
    let parts = or_parts (ends_field delimiter c) (list_any (ends_field delimiter) cs) clean in
    rw ((or_parts (c == delimiter) (is_special c) parts.0).1, clean_plain delimiter cs parts.1) refl

-- a clean word, a delimiter and bytes that aren't special
plain_more : (delimiter : ℕ) (word rest : List ℕ) → is_special delimiter ≡ false → list_any (ends_field delimiter) word ≡ false
    → list_any is_special rest ≡ false → list_any is_special (word ++ delimiter ∷ rest) ≡ false
plain_more delimiter word rest other clean plain =
    rw (list_any-append is_special word (delimiter ∷ rest), clean_plain delimiter word clean, other, plain) refl

no_return : (delimiter : ℕ) → is_special delimiter ≡ false → (13 == delimiter) ≡ false
no_return delimiter other = grind (arith, nat_tests)

plain_now : (bytes : List ℕ) → 0 < length bytes → starts_with_mark bytes ≡ false → list_any is_special bytes ≡ false → is_plain bytes ≡ true
plain_now [] some first plain = absurd (omega arith)
plain_now (c ∷ cs) some first plain = rw (first, plain) refl

-- the three fields of bytes
words_are : (delimiter : ℕ) (part first rest second third : List ℕ) → CleanBefore delimiter part first rest
    → CleanBefore delimiter rest second third → list_any (ends_field delimiter) third ≡ false
    → words delimiter part ≡ first ∷ second ∷ third ∷ []
words_are delimiter part first rest second third one two last =
    let after_first : words delimiter (first ++ delimiter ∷ rest) ≡ first ∷ words delimiter rest =
    word_before delimiter (first ++ delimiter ∷ rest) first rest (until-front delimiter first rest (clean_lacks delimiter first one.1)) in
    let after_second : words delimiter (second ++ delimiter ∷ third) ≡ second ∷ words delimiter third =
    word_before delimiter (second ++ delimiter ∷ third) second third (until-front delimiter second third (clean_lacks delimiter second two.1)) in
    let end : words delimiter third ≡ third ∷ [] = only_word delimiter third (until-lone delimiter third (clean_lacks delimiter third last)) in
    ap (words delimiter) one.0 ∙ after_first
    ∙ ap (λ (more : List (List ℕ)). first ∷ more)
    (ap (words delimiter) two.0 ∙ after_second ∙ ap (λ (more : List (List ℕ)). second ∷ more) end)

some_byte : (xs ys : List ℕ) (c : ℕ) → 0 < length (xs ++ c ∷ ys)
some_byte [] ys c = omega arith
some_byte (x ∷ xs) ys c = omega arith

-- they are the fields of a line, without the white space around them
pub three_fields : (delimiter : ℕ) (line part first rest second third a b c : List ℕ) → is_special delimiter ≡ false
    → part ≡ without_return line → starts_with_mark part ≡ false → CleanBefore delimiter part first rest
    → CleanBefore delimiter rest second third → list_any (ends_field delimiter) third ≡ false
    → a ≡ trimmed first → b ≡ trimmed second → c ≡ trimmed third → fields_of_line delimiter line ≡ Some (a ∷ b ∷ c ∷ [])
three_fields delimiter line part first rest second third a b c other same start one two last is_a is_b is_c =
    let inner : list_any is_special rest ≡ false =
    ap (list_any is_special) two.0 ∙ plain_more delimiter second third other two.1 (clean_plain delimiter third last) in
    let whole : list_any is_special part ≡ false = ap (list_any is_special) one.0 ∙ plain_more delimiter first rest other one.1 inner in
    let some : 0 < length part = rw one.0 (some_byte first rest delimiter) in
    rw (is_a, is_b, is_c)
    (plain_fields delimiter line part (no_return delimiter other) same (plain_now part some start whole)
    ∙ ap (λ (found : List (List ℕ)). Some (map trimmed found)) (words_are delimiter part first rest second third one two last))
