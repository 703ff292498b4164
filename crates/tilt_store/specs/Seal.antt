-- A text behind its digest, so that spoiled bytes show (our own rule).
use Rattle.std.specs.Prelude.{ℕ, if◌then◌else◌, List, ◌∷◌, ◌++◌, codes, bytes_eq, Option, Some, None}
use Rattle.hex.specs.Hex.{encode_lower}
use Rattle.sha2.specs.Sha256.{sha256}
use Rattle.tilt_text.specs.Cut.{until_at}
use Rattle.tilt_text.specs.Step.{◌>>=◌}

-- the seal of a text: the name of the form, and the text's SHA-256 in hexadecimal digits
abbrev pub seal_of : List ℕ → List ℕ
seal_of text = codes "tilt store 1 " ++ encode_lower (sha256 text)

-- a text behind the line of its seal
abbrev pub sealed : List ℕ → List ℕ
sealed text = seal_of text ++ 10 ∷ text

-- the text behind a line, if the line is its seal
abbrev pub if_sealed : List ℕ × List ℕ → Option (List ℕ)
if_sealed parts = if bytes_eq parts.0 (seal_of parts.1) then Some parts.1 else None

-- the text of bytes that start with its seal
abbrev pub unsealed : List ℕ → Option (List ℕ)
unsealed bytes = until_at 10 bytes >>= if_sealed
