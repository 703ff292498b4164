-- Bytes have tokens, or a first faulty place: they are looked through from left to right.
use Rattle.std.proofs.Common.{◌≡◌, ◌⊎◌, inl, inr, ℕ, zero, suc, ◌+◌, ◌^◌, ◌≤◌, pos, Option, Some, None}
use Rattle.std.proofs.Common.{List, [], ◌∷◌, ◌++◌, length, get_or, take, drop, refl, sym, ap, ◌∙◌, arith, length-drop, IsTrue}
use Rattle.std.specs.Bool.{IsFalse}
use Rattle.std.specs.Char.{is_ascii_digit}
use Rattle.std.specs.List.{prefix_len}
use Rattle.std.specs.Str.Parse.{digits_value}
use Rattle.std.proofs.lemmas.Bool.{cases_Bool, cases_lt}
use Rattle.tilt_lexer.specs.declared.fault.LexFault.{LexFault}
use Rattle.tilt_lexer.specs.declared.fault.LexFault.TheVariants as fault
use Rattle.tilt_lexer.specs.declared.key.Key.{Key}
use Rattle.tilt_lexer.specs.declared.token.Tok.{Tok}
use Rattle.tilt_lexer.specs.declared.token.Tok.TheVariants as tok
use Rattle.tilt_lexer.specs.declared.token.Token.{Token}
use Rattle.tilt_lexer.specs.Front.{IsFront}
use Rattle.tilt_lexer.specs.Tokens.{is_blank, mark_text, AreTokens, nothing, blank, IsFaultyAt, bad_byte, big_number, after_blank}
use Rattle.tilt_lexer.specs.Word.{begins_word, goes_on_word, IsReserved}
use Rattle.tilt_lexer.proofs.Differ.{key_with, key_found, no_key_found}
use Rattle.tilt_lexer.proofs.Fronts.{front_is_word, word_is_front, number_is_front, number_is_big, sign_is_front}
use Rattle.tilt_lexer.proofs.Reading.{front_some, tokens_from, faults_from}
use Rattle.tilt_lexer.proofs.Signs.{sign_or_none}
use Rattle.tilt_lexer.proofs.Texts.{sign_from_first}

-- a text is that of a reserved word, or of none
reserved_if : (text : List ℕ) (found : Option Key) → key_with text ≡ found → IsReserved text ⊎ (¬ (IsReserved text))
reserved_if text None e = inr (λ reserved. no_key_found reserved.0 text e (sym reserved.1))
reserved_if text (Some k) e = inl (k, key_found k text e)

-- the longest token at the beginning, or the fault there
abbrev Fronts : ℕ → List ℕ → Type 0
Fronts at bytes = ((kind : Tok) × (n : ℕ) × IsFront kind n bytes) ⊎ ((f : LexFault) × IsFaultyAt at bytes f)

word_front : (at : ℕ) (bytes : List ℕ) → IsTrue (begins_word (get_or bytes 0 0)) → Fronts at bytes
word_front at bytes first =
    let n = prefix_len goes_on_word bytes in
    elim (reserved_if (take n bytes) (key_with (take n bytes)) refl) [
      | inl key ↦ inl (tok.Key key.0, n, word_is_front bytes (tok.Key key.0) first (sym key.1) tt)
      | inr none ↦ inl (tok.Word (take n bytes), n, word_is_front bytes (tok.Word (take n bytes)) first (front_is_word bytes first, none, refl) tt)
    ]

number_front : (at : ℕ) (bytes : List ℕ) → IsTrue (is_ascii_digit (get_or bytes 0 0)) → Fronts at bytes
number_front at bytes first =
    let n = prefix_len is_ascii_digit bytes in
    let value = digits_value 10 (take n bytes) in
    elim (cases_lt value (2 ^ 63)) [
      | inl fits ↦ inl (tok.Number (pos value), n, number_is_front bytes (pos value) first fits refl)
      | inr above ↦ inr (fault.BigNumber at, big_number (number_is_big bytes first (λ fits. absurd (omega arith))))
    ]

sign_front : (at b : ℕ) (bytes : List ℕ) → IsFalse (is_blank b) → IsFalse (begins_word b) → IsFalse (is_ascii_digit b)
    → Fronts at (b ∷ bytes)
sign_front at b bytes no_blank no_word no_digit =
    elim (sign_or_none (b ∷ bytes)) [
      | inl sign ↦ inl (tok.Mark sign.0, length (mark_text sign.0), sign_is_front (b ∷ bytes) no_word no_digit sign.0 sign.1)
      | inr none ↦ inr (
        fault.BadByte at,
        bad_byte no_blank (λ front more e text.
            let is = sign_from_first (b ∷ bytes) front more e text no_word no_digit in
            none is.0 more (e ∙ ap (λ l. l ++ more) is.1)),
      )
    ]

front : (at b : ℕ) (bytes : List ℕ) → IsFalse (is_blank b) → Fronts at (b ∷ bytes)
front at b bytes no_blank =
    elim (cases_Bool (begins_word b)) [
      | inl word ↦ word_front at (b ∷ bytes) word
      | inr no_word ↦ elim (cases_Bool (is_ascii_digit b)) [
        | inl digit ↦ number_front at (b ∷ bytes) digit
        | inr no_digit ↦ sign_front at b bytes no_blank no_word no_digit
      ]
    ]

-- tokens, or a fault, from a place on
abbrev Reads : ℕ → List ℕ → Type 0
Reads at bytes = ((tokens : List Token) × AreTokens at bytes tokens) ⊎ ((f : LexFault) × IsFaultyAt at bytes f)

after_a_blank : (at b : ℕ) (bytes : List ℕ) → IsTrue (is_blank b) → Reads (at + 1) bytes → Reads at (b ∷ bytes)
after_a_blank at b bytes is (inl rest) = inl (rest.0, blank is rest.1)
after_a_blank at b bytes is (inr rest) = inr (rest.0, after_blank is rest.1)

after_a_token : (at n : ℕ) (kind : Tok) (bytes : List ℕ) → IsFront kind n bytes → Reads (at + n) (drop n bytes) → Reads at bytes
after_a_token at n kind bytes front (inl rest) =
    inl (record { kind = kind; start = at; end = at + n } ∷ rest.0, tokens_from at n kind bytes (drop n bytes) front refl rest.0 rest.1)
after_a_token at n kind bytes front (inr rest) = inr (rest.0, faults_from at n kind bytes (drop n bytes) front refl rest.0 rest.1)

read_within : (most at : ℕ) (bytes : List ℕ) → length bytes ≤ most → Reads at bytes
read_within zero at [] few = inl ([], nothing)
read_within zero at (b ∷ bytes) few = absurd (omega arith)
read_within (suc most) at [] few = inl ([], nothing)
read_within (suc most) at (b ∷ bytes) few =
    elim (cases_Bool (is_blank b)) [
      | inl is ↦ after_a_blank at b bytes is (read_within most (at + 1) bytes (omega arith))
      | inr no_blank ↦ elim (front at b bytes no_blank) [
        | inl token ↦ after_a_token at token.1 token.0 (b ∷ bytes) token.2 (read_within most (at + token.1) (drop token.1 (b ∷ bytes))
            (omega (arith, length-drop token.1 (b ∷ bytes), front_some token.0 token.1 (b ∷ bytes) token.2)))
        | inr bad ↦ inr bad
      ]
    ]

-- bytes have tokens or a fault; `Unique` has that they don't have both
pub tokens_or_fault : (bytes : List ℕ) → ((tokens : List Token) × AreTokens 0 bytes tokens) ⊎ ((f : LexFault) × IsFaultyAt 0 bytes f)
tokens_or_fault bytes = read_within (length bytes) 0 bytes (omega arith)
