-- Bytes cut at a mark.
use Rattle.std.specs.Prelude.{ℕ, ◌==◌, if◌then◌else◌, List, [], ◌∷◌, Option, Some, None}
use Rattle.tilt_text.specs.Step.{◌>>=◌}

-- one byte more at the beginning of the word
abbrev pub onto : ℕ → List ℕ × List ℕ → Option (List ℕ × List ℕ)
onto byte parts = Some (byte ∷ parts.0, parts.1)

-- the word up to the first mark, and the bytes after that mark
abbrev pub until_at : ℕ → List ℕ → Option (List ℕ × List ℕ)
until_at mark [] = None
until_at mark (byte ∷ bytes) = if byte == mark then Some ([], bytes) else (until_at mark bytes >>= onto byte)
