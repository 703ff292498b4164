-- The fields between delimiters, one by one.
use Rattle.std.proofs.Common.{◌≡◌, ℕ, ◌<◌, Bool, true, false, if◌then◌else◌, ◌==◌, List, [], ◌∷◌, ◌++◌, length, Option, Some, None}
use Rattle.std.proofs.Common.{refl, ap, map, ◌∙◌, arith, append_assoc, append-nil, length-append}
use Rattle.csv.specs.Records.{trimmed}
use Rattle.tilt_reading_lines.specs.Plain.{words, words_from}
use Rattle.tilt_text.specs.Cut.{onto, until_at}
use Rattle.tilt_text.specs.Step.{◌>>=◌}
use Rattle.tilt_text.proofs.Words.{front-until}

-- the bytes up to the first delimiter, and the fields after it
abbrev FirstWord : ℕ → List ℕ → Option (List ℕ × List ℕ) → List (List ℕ) → List ℕ → Type 0
FirstWord delimiter word None found bytes = found ≡ (word ++ bytes) ∷ []
FirstWord delimiter word (Some parts) found bytes = found ≡ (word ++ parts.0) ∷ words delimiter parts.1

first_word : (delimiter : ℕ) (word bytes : List ℕ)
    → FirstWord delimiter word (until_at delimiter bytes) (words_from delimiter word bytes) bytes
first_word delimiter word [] = rw append-nil refl
first_word delimiter word (c ∷ bytes) = by (c == delimiter) (until_at delimiter bytes) (first_word delimiter (word ++ (c ∷ [])) bytes)
  where
    by : (here : Bool) (parts : Option (List ℕ × List ℕ))
        → FirstWord delimiter (word ++ (c ∷ [])) parts (words_from delimiter (word ++ (c ∷ [])) bytes) bytes
        → FirstWord delimiter word (if here then Some ([], bytes) else (parts >>= onto c))
        (if here then word ∷ words_from delimiter [] bytes else words_from delimiter (word ++ (c ∷ [])) bytes) (c ∷ bytes)
    by true parts more = rw append-nil refl
    by false None more = rw append_assoc at more
    by false (Some parts) more = rw append_assoc at more

-- the first field before a delimiter, and the fields after it
pub word_before : (delimiter : ℕ) (bytes word after : List ℕ) → until_at delimiter bytes ≡ Some (word, after)
    → words delimiter bytes ≡ word ∷ words delimiter after
word_before delimiter bytes word after is = rw is at (first_word delimiter [] bytes)

-- the only field if there is none
pub only_word : (delimiter : ℕ) (bytes : List ℕ) → until_at delimiter bytes ≡ None → words delimiter bytes ≡ bytes ∷ []
only_word delimiter bytes none = rw none at (first_word delimiter [] bytes)

-- what is after a delimiter is shorter
pub after_shorter : (delimiter : ℕ) (bytes word after : List ℕ) → until_at delimiter bytes ≡ Some (word, after)
    → length after < length bytes
after_shorter delimiter bytes word after is =
    let whole = ap length (front-until delimiter bytes word after is) ∙ length-append word (delimiter ∷ after) in
    omega (arith, whole)

-- a field was taken off
pub word_taken : (delimiter : ℕ) (rest word after field partial : List ℕ) (old new all : List (List ℕ))
    → until_at delimiter rest ≡ Some (word, after) → field ≡ trimmed word → partial ≡ [] → new ≡ old ++ ((partial ++ field) ∷ [])
    → old ++ map trimmed (words delimiter rest) ≡ all → new ++ map trimmed (words delimiter after) ≡ all
word_taken delimiter rest word after field partial old new all cut is none pushed left =
    rw (pushed, none, is, append_assoc) (rw (word_before delimiter rest word after cut) at left)

-- and so did the last one
pub last_taken : (delimiter : ℕ) (rest field partial : List ℕ) (old new all : List (List ℕ)) → until_at delimiter rest ≡ None
    → field ≡ trimmed rest → partial ≡ [] → new ≡ old ++ ((partial ++ field) ∷ []) → old ++ map trimmed (words delimiter rest) ≡ all
    → new ≡ all
last_taken delimiter rest field partial old new all none is empty pushed left =
    rw (pushed, empty, is) (rw (only_word delimiter rest none) at left)
