-- Texts with a part for each of several names, as NAME=N,NAME=N (our own rule).
use Rattle.std.specs.Prelude.{ℕ, ◌==◌, Bool, if◌then◌else◌, List, [], ◌∷◌, ◌++◌, Option, Some, None, option_map}
use Rattle.std.specs.List.{after_first, before_first, list_any}
use Rattle.std.specs.Str.{bytes_eq}
use Rattle.tilt_lexer.specs.Word.{is_word}
use Rattle.tilt_text.specs.Step.{◌>>=◌}

-- a part is cut at its first `=`
abbrev pub name_in : List ℕ → List ℕ
name_in part = before_first (λ b. b == 61) part

abbrev pub text_in : List ℕ → List ℕ
text_in part = after_first (λ b. b == 61) part

-- what is made of a name and a number, if the name is a word and there is a number
abbrev pub made_with : {X : Type 0} → (List ℕ → ℕ → X) → List ℕ → Option ℕ → Option X
made_with make name number = if is_word name then option_map (make name) number else None

-- whether one of these has a name
abbrev pub has_name : {X : Type 0} → (X → List ℕ) → List X → List ℕ → Bool
has_name name_of items name = list_any (λ other. bytes_eq (name_of other) name) items

-- one more, if none before it has its name
abbrev pub with_one : {X : Type 0} → (X → List ℕ) → List X → X → Option (List X)
with_one name_of items one = if has_name name_of items (name_of one) then None else Some (items ++ one ∷ [])

-- what parts make of a table, one after another, if it takes each of them
abbrev pub after_parts : {T : Type 0} → (T → List ℕ → Option T) → T → List (List ℕ) → Option T
after_parts with_part table [] = Some table
after_parts with_part table (part ∷ parts) = with_part table part >>= (λ table. after_parts with_part table parts)

-- the first name of these that isn't one of the names
abbrev pub first_missing : {X : Type 0} → (X → List ℕ) → List X → List (List ℕ) → Option (List ℕ)
first_missing name_of [] names = None
first_missing name_of (one ∷ items) names =
    if list_any (bytes_eq (name_of one)) names then first_missing name_of items names else Some (name_of one)
