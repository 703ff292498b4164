-- Lines without quotes, which the crate `csv` reads as the fields between delimiters.
use Rattle.std.specs.Prelude.{◌≡◌, ℕ, Bool, false, ◌==◌, ◌||◌, ◌&&◌, not, if◌then◌else◌, List, [], ◌∷◌, ◌++◌}
use Rattle.std.specs.List.{list_any}

-- whether the byte is a quote or ends a record
abbrev pub is_special : ℕ → Bool
is_special byte = byte == 34 || byte == 10 || byte == 13

-- whether there are bytes, none of them special, and the first isn't that of a byte order mark
abbrev pub is_plain : List ℕ → Bool
is_plain [] = false
is_plain (byte ∷ bytes) = not (byte == 0xEF) && not (list_any is_special (byte ∷ bytes))

-- whether the first byte is that of a byte order mark
abbrev pub starts_with_mark : List ℕ → Bool
starts_with_mark [] = false
starts_with_mark (byte ∷ bytes) = byte == 0xEF

-- whether a byte is a delimiter or special
abbrev pub ends_field : ℕ → ℕ → Bool
ends_field delimiter byte = byte == delimiter || is_special byte

-- a delimiter comes after a word without one and without special bytes, and the rest after the delimiter
abbrev pub CleanBefore : ℕ → List ℕ → List ℕ → List ℕ → Type 0
CleanBefore delimiter bytes word rest = (bytes ≡ word ++ delimiter ∷ rest) × (list_any (ends_field delimiter) word ≡ false)

-- the bytes of a line without a CR at its end
abbrev pub without_return : List ℕ → List ℕ
without_return [] = []
without_return (byte ∷ []) = if byte == 13 then [] else byte ∷ []
without_return (byte ∷ next ∷ bytes) = byte ∷ without_return (next ∷ bytes)

-- the fields between delimiters, if the first begins with these bytes
abbrev pub words_from : ℕ → List ℕ → List ℕ → List (List ℕ)
words_from delimiter word [] = word ∷ []
words_from delimiter word (byte ∷ bytes) =
    if byte == delimiter then word ∷ words_from delimiter [] bytes else words_from delimiter (word ++ (byte ∷ [])) bytes

-- the fields between delimiters
abbrev pub words : ℕ → List ℕ → List (List ℕ)
words delimiter bytes = words_from delimiter [] bytes
