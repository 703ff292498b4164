-- What the text of a token begins with: a word with a letter or `_`, a number with a digit, a sign with neither, and none with a blank.
use Rattle.std.proofs.Common.{◌≡◌, ℕ, ◌<◌, ◌⊎◌, inl, inr, true, false, List, [], ◌∷◌, ◌++◌, length, get_or, refl, sym, ap, ◌∙◌, arith, IsTrue}
use Rattle.std.specs.Bool.{IsFalse}
use Rattle.std.specs.Char.{is_ascii_digit}
use Rattle.std.proofs.lemmas.Bool.{and_parts, false≢true}
use Rattle.std.proofs.lemmas.Bool.Decides.{nat_tests}
use Rattle.std.proofs.lemmas.List.{get_or_append_left}
use Rattle.tilt_base.specs.Reduce.{reducer_word}
use Rattle.tilt_base.specs.declared.reducer.Reducer.TheVariants as reducer
use Rattle.tilt_lexer.specs.declared.key.Key.{Key}
use Rattle.tilt_lexer.specs.declared.key.Key.TheVariants as key
use Rattle.tilt_lexer.specs.declared.mark.Mark.{Mark}
use Rattle.tilt_lexer.specs.declared.mark.Mark.TheVariants as mark
use Rattle.tilt_lexer.specs.declared.token.Tok.TheVariants as tok
use Rattle.tilt_lexer.specs.Tokens.{is_blank, mark_text, IsDigits, IsTokenText}
use Rattle.tilt_lexer.specs.Word.{begins_word, is_word, IsWord, key_text}

-- a digit begins no word, and what begins a word or is a digit is no blank
pub digit_no_word : (b : ℕ) → is_ascii_digit b ≡ true → begins_word b ≡ false
digit_no_word b h = grind (arith, nat_tests)

blank_no_word : (b : ℕ) → begins_word b ≡ true → is_blank b ≡ false
blank_no_word b h = grind (arith, nat_tests)

blank_no_digit : (b : ℕ) → is_ascii_digit b ≡ true → is_blank b ≡ false
blank_no_digit b h = grind (arith, nat_tests)

-- a word has a first byte, which begins a word
pub word_first : (text : List ℕ) → IsWord text → (0 < length text) × IsTrue (begins_word (get_or text 0 0))
word_first [] h = absurd (false≢true h)
word_first (b ∷ bs) h = (omega arith, (and_parts _ _ h).0)

-- the first of one or more digits is a digit
pub digits_first : (text : List ℕ) → IsDigits text → IsTrue (is_ascii_digit (get_or text 0 0))
digits_first [] h = absurd (omega (arith, h.0))
digits_first (b ∷ bs) h = (and_parts _ _ h.1).0

-- a sign has a first byte, which begins neither and is no blank
pub record FirstOfSign (m : Mark) : Type 0 where
  pub some : 0 < length (mark_text m)
  pub no_word : IsFalse (begins_word (get_or (mark_text m) 0 0))
  pub no_digit : IsFalse (is_ascii_digit (get_or (mark_text m) 0 0))
  pub no_blank : IsFalse (is_blank (get_or (mark_text m) 0 0))

pub sign_first : (m : Mark) → FirstOfSign m
sign_first mark.Semicolon = record { some = omega arith; no_word = refl; no_digit = refl; no_blank = refl }
sign_first mark.Assign = record { some = omega arith; no_word = refl; no_digit = refl; no_blank = refl }
sign_first mark.Equal = record { some = omega arith; no_word = refl; no_digit = refl; no_blank = refl }
sign_first mark.NotEqual = record { some = omega arith; no_word = refl; no_digit = refl; no_blank = refl }
sign_first mark.Less = record { some = omega arith; no_word = refl; no_digit = refl; no_blank = refl }
sign_first mark.AtMost = record { some = omega arith; no_word = refl; no_digit = refl; no_blank = refl }
sign_first mark.Greater = record { some = omega arith; no_word = refl; no_digit = refl; no_blank = refl }
sign_first mark.AtLeast = record { some = omega arith; no_word = refl; no_digit = refl; no_blank = refl }
sign_first mark.Plus = record { some = omega arith; no_word = refl; no_digit = refl; no_blank = refl }
sign_first mark.Minus = record { some = omega arith; no_word = refl; no_digit = refl; no_blank = refl }
sign_first mark.Star = record { some = omega arith; no_word = refl; no_digit = refl; no_blank = refl }
sign_first mark.Slash = record { some = omega arith; no_word = refl; no_digit = refl; no_blank = refl }
sign_first mark.Percent = record { some = omega arith; no_word = refl; no_digit = refl; no_blank = refl }
sign_first mark.OpenParen = record { some = omega arith; no_word = refl; no_digit = refl; no_blank = refl }
sign_first mark.CloseParen = record { some = omega arith; no_word = refl; no_digit = refl; no_blank = refl }
sign_first mark.OpenBracket = record { some = omega arith; no_word = refl; no_digit = refl; no_blank = refl }
sign_first mark.CloseBracket = record { some = omega arith; no_word = refl; no_digit = refl; no_blank = refl }
sign_first mark.Comma = record { some = omega arith; no_word = refl; no_digit = refl; no_blank = refl }
sign_first mark.Colon = record { some = omega arith; no_word = refl; no_digit = refl; no_blank = refl }

-- a reserved word is a word
pub key_is_word : (k : Key) → IsWord (key_text k)
key_is_word key.Input = refl
key_is_word key.Let = refl
key_is_word key.Emit = refl
key_is_word key.Over = refl
key_is_word key.Every = refl
key_is_word key.From = refl
key_is_word key.If = refl
key_is_word key.Then = refl
key_is_word key.Else = refl
key_is_word key.When = refl
key_is_word key.Or = refl
key_is_word key.And = refl
key_is_word key.Not = refl
key_is_word key.TrueWord = refl
key_is_word key.FalseWord = refl
key_is_word key.IsNull = refl
key_is_word key.IfNull = refl
key_is_word key.Time = refl
key_is_word (key.Reducer r) = elim r as (λ q. IsWord (reducer_word q)) [ reducer.Sum ↦ refl | _ ↦ refl ]

-- the text is that of a sign
abbrev pub IsSign : List ℕ → Type 0
IsSign text = (m : Mark) × (text ≡ mark_text m)

-- the text of a token is a word, digits or that of a sign
pub token_text : (text : List ℕ) → IsTokenText text → IsWord text ⊎ (IsDigits text ⊎ IsSign text)
token_text text (tok.Word name, h) = inl h.0
token_text text (tok.Number n, h) = inr (inl h.0)
token_text text (tok.Key k, h) = inl (ap is_word h ∙ key_is_word k)
token_text text (tok.Mark m, h) = inr (inr (m, h))

-- a token's text has a first byte, which is no blank
pub record FirstOfToken (text : List ℕ) : Type 0 where
  pub some : 0 < length text
  pub no_blank : IsFalse (is_blank (get_or text 0 0))

pub token_first : (text : List ℕ) → IsTokenText text → FirstOfToken text
token_first text h =
    elim (token_text text h) [
      | inl w ↦ let first = word_first text w in record { some = first.0; no_blank = blank_no_word (get_or text 0 0) first.1 }
      | inr (inl d) ↦ record { some = d.0; no_blank = blank_no_digit (get_or text 0 0) (digits_first text d) }
      | inr (inr (m, e)) ↦ let first = sign_first m in record { some = rw e first.some; no_blank = rw e first.no_blank }
    ]

-- the first byte of bytes that begin with a token's text is that of the text
pub first_same : (bytes text more : List ℕ) → bytes ≡ text ++ more → IsTokenText text → get_or bytes 0 0 ≡ get_or text 0 0
first_same bytes text more e h = ap (λ l. get_or l 0 0) e ∙ get_or_append_left text more 0 0 (token_first text h).some

module _ (bytes text more : List ℕ) (e : bytes ≡ text ++ more) (h : IsTokenText text) where
  -- which of the three a token's text is, by the first byte
  pub word_from_first : IsTrue (begins_word (get_or bytes 0 0)) → IsWord text
  word_from_first first =
      let same = first_same bytes text more e h in
      elim (token_text text h) [
        | inl w ↦ w
        | inr (inl d) ↦ absurd (false≢true (sym (digit_no_word (get_or text 0 0) (digits_first text d)) ∙ ap begins_word (sym same) ∙ first))
        | inr (inr (m, s)) ↦ absurd (false≢true (sym (sign_first m).no_word ∙ ap (λ l. begins_word (get_or l 0 0)) (sym s) ∙ ap begins_word (sym same) ∙ first))
      ]

  pub digits_from_first : IsTrue (is_ascii_digit (get_or bytes 0 0)) → IsDigits text
  digits_from_first first =
      let same = first_same bytes text more e h in
      elim (token_text text h) [
        | inl w ↦ absurd (false≢true (sym (digit_no_word (get_or bytes 0 0) first) ∙ ap begins_word same ∙ (word_first text w).1))
        | inr (inl d) ↦ d
        | inr (inr (m, s)) ↦ absurd (false≢true (sym (sign_first m).no_digit ∙ ap (λ l. is_ascii_digit (get_or l 0 0)) (sym s) ∙ ap is_ascii_digit (sym same) ∙ first))
      ]

  pub sign_from_first : IsFalse (begins_word (get_or bytes 0 0)) → IsFalse (is_ascii_digit (get_or bytes 0 0)) → IsSign text
  sign_from_first no_word no_digit =
      let same = first_same bytes text more e h in
      elim (token_text text h) [
        | inl w ↦ absurd (false≢true (sym no_word ∙ ap begins_word same ∙ (word_first text w).1))
        | inr (inl d) ↦ absurd (false≢true (sym no_digit ∙ ap is_ascii_digit same ∙ digits_first text d))
        | inr (inr s) ↦ s
      ]
