-- The fields between commas, one by one.
use Rattle.std.proofs.Common.{◌≡◌, ℕ, ◌≤◌, Bool, true, false, if◌then◌else◌, ◌==◌, List, [], ◌∷◌, ◌++◌, length, Option, Some, None}
use Rattle.std.proofs.Common.{MatchOption, Bor, refl, arith, append_assoc, append-nil}
use Rattle.tilt_feed_line.specs.Plain.{words, words_from}
use Rattle.tilt_text.specs.Cut.{onto, until_at}
use Rattle.tilt_text.specs.Step.{◌>>=◌}
use Rattle.tilt_text.proofs.Lacks.{Lacks}
use Rattle.tilt_text.proofs.Words.{until-front, until-lone}

-- the bytes up to the first comma, and the fields after it
abbrev pub FirstWord : List ℕ → Option (List ℕ × List ℕ) → List (List ℕ) → List ℕ → Type 0
FirstWord word None found bytes = found ≡ (word ++ bytes) ∷ []
FirstWord word (Some parts) found bytes = found ≡ (word ++ parts.0) ∷ words parts.1

pub first_word : (word bytes : List ℕ) → FirstWord word (until_at 44 bytes) (words_from word bytes) bytes
first_word word [] = rw append-nil refl
first_word word (c ∷ bytes) = by (c == 44) (until_at 44 bytes) (first_word (word ++ (c ∷ [])) bytes)
  where
    by : (comma : Bool) (parts : Option (List ℕ × List ℕ)) → FirstWord (word ++ (c ∷ [])) parts (words_from (word ++ (c ∷ [])) bytes) bytes
        → FirstWord word (if comma then Some ([], bytes) else (parts >>= onto c))
        (if comma then word ∷ words_from [] bytes else words_from (word ++ (c ∷ [])) bytes) (c ∷ bytes)
    by true parts more = rw append-nil refl
    by false None more = rw append_assoc at more
    by false (Some parts) more = rw append_assoc at more

-- there is a word always
some_word : (word bytes : List ℕ) → 1 ≤ length (words_from word bytes)
some_word word [] = omega arith
some_word word (c ∷ bytes) = by (c == 44) (some_word (word ++ (c ∷ [])) bytes)
  where
    by : (comma : Bool) → 1 ≤ length (words_from (word ++ (c ∷ [])) bytes)
        → 1 ≤ length (if comma then word ∷ words_from [] bytes else words_from (word ++ (c ∷ [])) bytes)
    by true more = omega arith
    by false more = more

-- the first field and the fields after it, or the only field
pub split_at_comma : (bytes : List ℕ) (parts : Option (Bor (List ℕ) × Bor (List ℕ)))
    → MatchOption parts (until_at 44 bytes ≡ None) (λ two. until_at 44 bytes ≡ Some (two.0.now, two.1.now))
    → MatchOption parts (words bytes ≡ bytes ∷ []) (λ two. (words bytes ≡ two.0.now ∷ words two.1.now) × (1 ≤ length (words two.1.now)))
split_at_comma bytes None e = rw e at (first_word [] bytes)
split_at_comma bytes (Some two) e = (rw e at (first_word [] bytes), some_word [] two.1.now)

-- bytes without a comma are the first word before one
pub cut_word : (front bytes : List ℕ) → Lacks 44 front → words (front ++ 44 ∷ bytes) ≡ front ∷ words bytes
cut_word front bytes lacks = rw (until-front 44 front bytes lacks) at (first_word [] (front ++ 44 ∷ bytes))

-- and the only word where there is none
pub lone_word : (bytes : List ℕ) → Lacks 44 bytes → words bytes ≡ bytes ∷ []
lone_word bytes lacks = rw (until-lone 44 bytes lacks) at (first_word [] bytes)
