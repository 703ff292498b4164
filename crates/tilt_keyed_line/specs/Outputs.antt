-- The output of a key, with the key before each line (our own rule).
use Rattle.std.specs.Prelude.{◌≡◌, ℕ, ◌==◌, if◌then◌else◌, List, [], ◌∷◌, ◌++◌, map}

-- the lines of a text, without their LFs, if the first one begins with these bytes. What comes after the last LF is no line
abbrev pub lines_after : List ℕ → List ℕ → List (List ℕ)
lines_after front [] = []
lines_after front (byte ∷ bytes) = if byte == 10 then front ∷ lines_after [] bytes else lines_after (front ++ byte ∷ []) bytes

-- the lines of a text
abbrev pub lines_in : List ℕ → List (List ℕ)
lines_in bytes = lines_after [] bytes

-- the text of lines, each with its LF
abbrev pub text_of : List (List ℕ) → List ℕ
text_of [] = []
text_of (line ∷ lines) = line ++ 10 ∷ text_of lines

-- a text is nothing but lines
abbrev pub IsWhole : List ℕ → Type 0
IsWhole bytes = text_of (lines_in bytes) ≡ bytes

-- a line with a key before it
abbrev pub key_line : List ℕ → List ℕ → List ℕ
key_line key line = key ++ 44 ∷ line

-- an output with a key before each line
abbrev pub with_key : List ℕ → List ℕ → List ℕ
with_key key output = text_of (map (key_line key) (lines_in output))
