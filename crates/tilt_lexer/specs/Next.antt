-- The next token of a text (our own rule).
use Rattle.std.specs.Prelude.{ℕ, ◌+◌, List, ◌∷◌, length, IsTrue}
use Rattle.std.specs.Bool.{IsFalse}
use Rattle.tilt_lexer.specs.Tokens.{is_blank, Begins, BeginsBig, BeginsNone, IsWithin}
use Rattle.tilt_lexer.specs.declared.fault.LexFault.{LexFault}
use Rattle.tilt_lexer.specs.declared.fault.LexFault.TheVariants as fault
use Rattle.tilt_lexer.specs.declared.token.Tok.{Tok}
use Rattle.tilt_lexer.specs.declared.token.Token.{Token}

-- of the bytes, the first of which is at the place `at`, the token is the first, after any blanks, and the rest comes after it
pub data IsNext : ℕ → List ℕ → Token → List ℕ → Type 0 where
  -- the longest token there
  here : {at : ℕ} {kind : Tok} {bytes text rest : List ℕ} → Begins kind bytes text rest → IsWithin kind
      → IsNext at bytes (record { kind = kind; start = at; end = at + length text }) rest
  -- a blank, and the token is after it
  after_blank : {at b : ℕ} {bytes : List ℕ} {token : Token} {rest : List ℕ} → IsTrue (is_blank b)
      → IsNext (at + 1) bytes token rest → IsNext at (b ∷ bytes) token rest

-- of the bytes, the first of which is at the place `at`, the first that is no blank begins no token, and this is its fault
pub data IsNextFault : ℕ → List ℕ → LexFault → Type 0 where
  -- no prefix of the bytes is the text of a token
  no_token : {at b : ℕ} {bytes : List ℕ} → IsFalse (is_blank b) → BeginsNone (b ∷ bytes) → IsNextFault at (b ∷ bytes) (fault.BadByte at)
  -- the longest token there has a number above the greatest
  too_big : {at : ℕ} {bytes : List ℕ} → BeginsBig bytes → IsNextFault at bytes (fault.BigNumber at)
  -- a blank, and the place is after it
  past_blank : {at b : ℕ} {bytes : List ℕ} {f : LexFault} → IsTrue (is_blank b) → IsNextFault (at + 1) bytes f
      → IsNextFault at (b ∷ bytes) f
