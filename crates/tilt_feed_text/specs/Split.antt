-- Which lines a text has (our own rule): each ends in LF, and the bytes after the last LF are no line yet.
use Rattle.std.specs.Prelude.{ℕ, ◌-◌, ◌==◌, if◌then◌else◌, List, [], ◌∷◌, ◌++◌, length, take}

-- the lines of a text, without their LFs, if the first one begins with these bytes
abbrev pub lines_after : List ℕ → List ℕ → List (List ℕ)
lines_after front [] = []
lines_after front (byte ∷ bytes) = if byte == 10 then front ∷ lines_after [] bytes else lines_after (front ++ byte ∷ []) bytes

-- the bytes after its last LF; if there is none, these bytes and the whole text
abbrev pub unfinished_after : List ℕ → List ℕ → List ℕ
unfinished_after front [] = front
unfinished_after front (byte ∷ bytes) =
    if byte == 10 then unfinished_after [] bytes else unfinished_after (front ++ byte ∷ []) bytes

-- the lines of a text
abbrev pub whole_lines : List ℕ → List (List ℕ)
whole_lines bytes = lines_after [] bytes

-- the bytes of a text that are no line yet
abbrev pub unfinished : List ℕ → List ℕ
unfinished bytes = unfinished_after [] bytes

-- its bytes up to the last LF, with it: those of its lines
abbrev pub ended : List ℕ → List ℕ
ended bytes = take (length bytes - length (unfinished bytes)) bytes
