-- Bytes begin with a sign, and with none longer, or with none.
use Rattle.std.proofs.Common.{◌≡◌, ◌≢◌, ◌⊎◌, inl, inr, ℕ, Option, Some, None}
use Rattle.std.proofs.Common.{List, ◌++◌, length, take, drop, refl, sym, ap, ◌∙◌, arith, take-append-drop, length-append, length-take}
use Rattle.std.proofs.lemmas.List.{take_at}
use Rattle.tilt_lexer.specs.declared.mark.Mark.{Mark}
use Rattle.tilt_lexer.specs.declared.mark.Mark.TheVariants as mark
use Rattle.tilt_lexer.specs.Tokens.{mark_text}
use Rattle.tilt_lexer.specs.Front.{BeginsWithSign}
use Rattle.tilt_lexer.proofs.Differ.{sign_with, sign_found, no_sign_found}
use Rattle.tilt_lexer.proofs.Texts.{sign_first}

-- a sign has one byte or two
sign_length : (m : Mark) → length (mark_text m) ≡ 1 ⊎ length (mark_text m) ≡ 2
sign_length mark.Semicolon = inl refl
sign_length mark.Assign = inl refl
sign_length mark.Equal = inr refl
sign_length mark.NotEqual = inr refl
sign_length mark.Less = inl refl
sign_length mark.AtMost = inr refl
sign_length mark.Greater = inl refl
sign_length mark.AtLeast = inr refl
sign_length mark.Plus = inl refl
sign_length mark.Minus = inl refl
sign_length mark.Star = inl refl
sign_length mark.Slash = inl refl
sign_length mark.Percent = inl refl
sign_length mark.OpenParen = inl refl
sign_length mark.CloseParen = inl refl
sign_length mark.OpenBracket = inl refl
sign_length mark.CloseBracket = inl refl
sign_length mark.Comma = inl refl
sign_length mark.Colon = inl refl

module _ (bytes : List ℕ) where
  -- the first n bytes, where they are a sign
  begins_at : (m : Mark) (n : ℕ) → sign_with (take n bytes) ≡ Some m → bytes ≡ mark_text m ++ drop n bytes
  begins_at m n e = rw (sign_found m (take n bytes) e) (sym (take-append-drop n bytes))

  -- a sign that the bytes begin with has the first one byte or two
  first_bytes : (m : Mark) (n : ℕ) (more : List ℕ) → bytes ≡ mark_text m ++ more → length (mark_text m) ≡ n → take n bytes ≡ mark_text m
  first_bytes m n more e size = rw e (take_at (mark_text m) more n size)

  -- the bytes begin with a sign, and with none longer, or with none
  abbrev pub AtFront : Type 0
  AtFront = ((m : Mark) × BeginsWithSign m bytes) ⊎ ((m : Mark) (more : List ℕ) → bytes ≢ mark_text m ++ more)

  -- a sign that is the first two bytes, or the only byte, is the longest
  sign_of_two : (m : Mark) → sign_with (take 2 bytes) ≡ Some m → BeginsWithSign m bytes
  sign_of_two m e = record {
    begins = (drop 2 bytes, begins_at m 2 e);
    longest = λ other more f.
        let size = ap length (sign_found m (take 2 bytes) e) ∙ length-take 2 bytes in
        let room = ap length f ∙ length-append (mark_text other) more in
        elim (sign_length other) [ inl one ↦ omega (arith, size, room) | inr two ↦ omega (arith, size, room) ];
  }

  -- so is one that is the first byte, where no sign is the first two
  sign_of_one : (m : Mark) → sign_with (take 2 bytes) ≡ None → sign_with (take 1 bytes) ≡ Some m → BeginsWithSign m bytes
  sign_of_one m none e = record {
    begins = (drop 1 bytes, begins_at m 1 e);
    longest = λ other more f.
        elim (sign_length other) [
          | inl one ↦ omega (arith, (sign_first m).some)
          | inr two ↦ absurd (no_sign_found other (take 2 bytes) none (first_bytes other 2 more f two))
        ];
  }

  -- where neither is a sign, the bytes begin with none
  no_sign : sign_with (take 2 bytes) ≡ None → sign_with (take 1 bytes) ≡ None → (m : Mark) (more : List ℕ) → bytes ≢ mark_text m ++ more
  no_sign none_of_two none_of_one m more e =
      elim (sign_length m) [
        | inl one ↦ no_sign_found m (take 1 bytes) none_of_one (first_bytes m 1 more e one)
        | inr two ↦ no_sign_found m (take 2 bytes) none_of_two (first_bytes m 2 more e two)
      ]

  front_sign : (two one : Option Mark) → sign_with (take 2 bytes) ≡ two → sign_with (take 1 bytes) ≡ one → AtFront
  front_sign (Some m) one e f = inl (m, sign_of_two m e)
  front_sign None (Some m) e f = inl (m, sign_of_one m e f)
  front_sign None None e f = inr (no_sign e f)

  pub sign_or_none : AtFront
  sign_or_none = front_sign (sign_with (take 2 bytes)) (sign_with (take 1 bytes)) refl refl
