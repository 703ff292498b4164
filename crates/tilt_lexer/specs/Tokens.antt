-- The tokens of a query's text (our own rule): which text a token has, that the longest is taken at each place, and which place
-- is the first faulty one.
use Rattle.std.specs.Prelude.{◌≡◌, ℕ, ◌+◌, ◌<◌, ◌≤◌, ℤ, pos, ◌<ℤ◌, ◌≤ℤ◌, Bool, ◌||◌, ◌==◌, List, [], ◌∷◌, ◌++◌, length, codes, IsTrue, ⊤}
use Rattle.std.specs.Bool.{IsFalse}
use Rattle.std.specs.Char.{is_ascii_digit}
use Rattle.std.specs.List.{list_all}
use Rattle.std.specs.Str.Parse.{digits_value}
use Rattle.tilt_lexer.specs.Word.{IsWord, IsReserved, key_text, IsName}
use Rattle.tilt_lexer.specs.declared.mark.Mark.{Mark}
use Rattle.tilt_lexer.specs.declared.mark.Mark.TheVariants as mark
use Rattle.tilt_lexer.specs.declared.token.Tok.{Tok}
use Rattle.tilt_lexer.specs.declared.token.Tok.TheVariants as tok
use Rattle.tilt_lexer.specs.declared.token.Token.{Token}
use Rattle.tilt_lexer.specs.declared.fault.LexFault.{LexFault}
use Rattle.tilt_lexer.specs.declared.fault.LexFault.TheVariants as fault

-- a space, a tab, a line feed or a carriage return
abbrev pub is_blank : ℕ → Bool
is_blank b = b == 32 || b == 9 || b == 10 || b == 13

-- the text of a sign
abbrev pub mark_text : Mark → List ℕ
mark_text mark.Semicolon = codes ";"
mark_text mark.Assign = codes "="
mark_text mark.Equal = codes "=="
mark_text mark.NotEqual = codes "!="
mark_text mark.Less = codes "<"
mark_text mark.AtMost = codes "<="
mark_text mark.Greater = codes ">"
mark_text mark.AtLeast = codes ">="
mark_text mark.Plus = codes "+"
mark_text mark.Minus = codes "-"
mark_text mark.Star = codes "*"
mark_text mark.Slash = codes "/"
mark_text mark.Percent = codes "%"
mark_text mark.OpenParen = codes "("
mark_text mark.CloseParen = codes ")"
mark_text mark.OpenBracket = codes "["
mark_text mark.CloseBracket = codes "]"
mark_text mark.Comma = codes ","
mark_text mark.Colon = codes ":"

-- one or more digits
abbrev pub IsDigits : List ℕ → Type 0
IsDigits text = (0 < length text) × IsTrue (list_all is_ascii_digit text)

-- the text is that of a token of this kind; here a number may have any size
abbrev pub IsTextOf : Tok → List ℕ → Type 0
IsTextOf (tok.Word name) text = IsWord text × ¬ (IsReserved text) × (name ≡ text)
IsTextOf (tok.Number n) text = IsDigits text × (n ≡ pos (digits_value 10 text))
IsTextOf (tok.Key k) text = text ≡ key_text k
IsTextOf (tok.Mark m) text = text ≡ mark_text m

-- the text of a token of some kind
abbrev pub IsTokenText : List ℕ → Type 0
IsTokenText text = (kind : Tok) × IsTextOf kind text

-- the bytes begin with the text of a token of this kind, and no longer prefix of them is the text of a token
pub record Begins (kind : Tok) (bytes text rest : List ℕ) : Type 0 where
  pub whole : bytes ≡ text ++ rest
  pub is_text : IsTextOf kind text
  pub longest : (front more : List ℕ) → bytes ≡ front ++ more → IsTokenText front → length front ≤ length text

-- no prefix of the bytes is the text of a token
abbrev pub BeginsNone : List ℕ → Type 0
BeginsNone bytes = (front more : List ℕ) → bytes ≡ front ++ more → ¬ (IsTokenText front)

-- the greatest number that a token may have
abbrev pub greatest_number : ℤ
greatest_number = pos 9223372036854775807

-- a token of this kind is none with a number above the greatest
abbrev pub IsWithin : Tok → Type 0
IsWithin (tok.Word name) = ⊤
IsWithin (tok.Number n) = n ≤ℤ greatest_number
IsWithin (tok.Key k) = ⊤
IsWithin (tok.Mark m) = ⊤

-- the bytes begin with digits that spell a number above the greatest
pub record BeginsBig (bytes : List ℕ) : Type 0 where
  pub number : ℤ
  pub text : List ℕ
  pub rest : List ℕ
  pub begins : Begins (tok.Number number) bytes text rest
  pub above : greatest_number <ℤ number

-- a name is a word and no reserved one, and a number isn't negative and not above the greatest
abbrev pub IsSound : Tok → Type 0
IsSound (tok.Word name) = IsName name
IsSound (tok.Number n) = pos 0 ≤ℤ n × n ≤ℤ greatest_number
IsSound (tok.Key k) = ⊤
IsSound (tok.Mark m) = ⊤

-- the bytes, the first of which is at the place `at`, are blanks and these tokens
pub data AreTokens : ℕ → List ℕ → List Token → Type 0 where
  -- nothing is left
  nothing : {at : ℕ} → AreTokens at [] []
  -- a blank, and then the rest
  blank : {at b : ℕ} {bytes : List ℕ} {tokens : List Token} → IsTrue (is_blank b) → AreTokens (at + 1) bytes tokens
      → AreTokens at (b ∷ bytes) tokens
  -- the longest token, and then the rest
  token : {at : ℕ} {kind : Tok} {bytes text rest : List ℕ} {tokens : List Token}
      → Begins kind bytes text rest → IsWithin kind → AreTokens (at + length text) rest tokens
      → AreTokens at bytes (record { kind = kind; start = at; end = at + length text } ∷ tokens)

-- this is the fault of the first faulty place of the bytes, the first of which is at the place `at`
pub data IsFaultyAt : ℕ → List ℕ → LexFault → Type 0 where
  -- a byte that is no blank, and no prefix of the bytes is the text of a token
  bad_byte : {at b : ℕ} {bytes : List ℕ} → IsFalse (is_blank b) → BeginsNone (b ∷ bytes) → IsFaultyAt at (b ∷ bytes) (fault.BadByte at)
  -- the longest token there has a number above the greatest
  big_number : {at : ℕ} {bytes : List ℕ} → BeginsBig bytes → IsFaultyAt at bytes (fault.BigNumber at)
  -- a blank, and the place is after it
  after_blank : {at b : ℕ} {bytes : List ℕ} {f : LexFault} → IsTrue (is_blank b) → IsFaultyAt (at + 1) bytes f
      → IsFaultyAt at (b ∷ bytes) f
  -- the longest token, and the place is after it
  after_token : {at : ℕ} {kind : Tok} {bytes text rest : List ℕ} {f : LexFault}
      → Begins kind bytes text rest → IsWithin kind → IsFaultyAt (at + length text) rest f → IsFaultyAt at bytes f
