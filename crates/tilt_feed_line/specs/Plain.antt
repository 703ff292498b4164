-- Lines without quotes, which the crate `csv` reads as the fields between commas.
use Rattle.std.specs.Prelude.{ℕ, Bool, false, ◌==◌, ◌||◌, ◌&&◌, not, if◌then◌else◌, List, [], ◌∷◌, ◌++◌}
use Rattle.std.specs.List.{list_any}

-- whether the byte is a quote or ends a record
abbrev pub is_special : ℕ → Bool
is_special byte = byte == 34 || byte == 10 || byte == 13

-- whether there are bytes, none of them special, and the first isn't that of a byte order mark
abbrev pub is_plain : List ℕ → Bool
is_plain [] = false
is_plain (byte ∷ bytes) = not (byte == 0xEF) && not (list_any is_special (byte ∷ bytes))

-- whether they have no comma either, and so are one field
abbrev pub is_plain_field : List ℕ → Bool
is_plain_field bytes = is_plain bytes && not (list_any (λ byte. byte == 44) bytes)

-- the bytes of a line without a CR at its end
abbrev pub without_return : List ℕ → List ℕ
without_return [] = []
without_return (byte ∷ []) = if byte == 13 then [] else byte ∷ []
without_return (byte ∷ next ∷ bytes) = byte ∷ without_return (next ∷ bytes)

-- the fields between commas, if the first begins with these bytes
abbrev pub words_from : List ℕ → List ℕ → List (List ℕ)
words_from word [] = word ∷ []
words_from word (byte ∷ bytes) = if byte == 44 then word ∷ words_from [] bytes else words_from (word ++ (byte ∷ [])) bytes

-- the fields between commas
abbrev pub words : List ℕ → List (List ℕ)
words bytes = words_from [] bytes
