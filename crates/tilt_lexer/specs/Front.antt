-- What is at the beginning of the bytes (our own rule).
use Rattle.std.specs.Prelude.{◌≡◌, ℕ, ◌≤◌, List, ◌++◌, length, take, drop}
use Rattle.tilt_lexer.specs.Tokens.{mark_text, Begins, IsWithin}
use Rattle.tilt_lexer.specs.declared.mark.Mark.{Mark}
use Rattle.tilt_lexer.specs.declared.token.Tok.{Tok}

-- the bytes begin with the text of the sign, and with that of none longer
pub record BeginsWithSign (m : Mark) (bytes : List ℕ) : Type 0 where
  pub begins : (more : List ℕ) × (bytes ≡ mark_text m ++ more)
  pub longest : (other : Mark) (more : List ℕ) → bytes ≡ mark_text other ++ more → length (mark_text other) ≤ length (mark_text m)

-- the first n bytes are the longest token that begins there, and it is of this kind
pub record IsFront (kind : Tok) (n : ℕ) (bytes : List ℕ) : Type 0 where
  pub fits : n ≤ length bytes
  pub begins : Begins kind bytes (take n bytes) (drop n bytes)
  pub within : IsWithin kind
