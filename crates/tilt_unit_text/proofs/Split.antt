-- Tokens in which each number is its count, taken apart as the tokens themselves are.
use Rattle.std.proofs.Common.{◌≡◌, ℕ, ℤ, List, [], ◌∷◌, ◌++◌, map, refl, ap, subst, Option, Some}
use Rattle.tilt_base.specs.declared.operator.Op2.{Op2}
use Rattle.tilt_base.specs.declared.operator.Op2.TheVariants as op2
use Rattle.tilt_lexer.specs.declared.key.Key.{Key}
use Rattle.tilt_lexer.specs.declared.key.Key.TheVariants as key
use Rattle.tilt_lexer.specs.declared.mark.Mark.{Mark}
use Rattle.tilt_lexer.specs.declared.mark.Mark.TheVariants as mark
use Rattle.tilt_lexer.specs.declared.token.Tok.{Tok}
use Rattle.tilt_lexer.specs.declared.token.Tok.TheVariants.{Word, Number, Key as Reserved, Mark as Sign}
use Rattle.tilt_syntax.specs.Grammar.{Infix, infix_of}
use Rattle.tilt_unit_text.specs.Places.{digits_at}
use Rattle.tilt_unit_text.specs.declared.written.Written.{Written}

-- a token with its number in the place of the count
abbrev pub token_with : List Written → Tok → Tok
token_with numbers (Number n) = Number (digits_at numbers n)
token_with numbers (Word x) = Word x
token_with numbers (Reserved k) = Reserved k
token_with numbers (Sign m) = Sign m

abbrev pub tokens_with : List Written → List Tok → List Tok
tokens_with numbers ts = map (token_with numbers) ts

-- no token but itself becomes this one
pub record IsFixed (numbers : List Written) (t : Tok) : Type 0 where
  pub only : (u : Tok) → token_with numbers u ≡ t → u ≡ t

module _ (numbers : List Written) where
  pub fixed_key : (k : Key) → IsFixed numbers (Reserved k)
  fixed_key k = record { only = is } where
    is : (u : Tok) → token_with numbers u ≡ Reserved k → u ≡ Reserved k
    is (Number n) e = absurd (cc e)
    is (Word x) e = absurd (cc e)
    is (Reserved j) e = e
    is (Sign m) e = absurd (cc e)

  pub fixed_sign : (m : Mark) → IsFixed numbers (Sign m)
  fixed_sign m = record { only = is } where
    is : (u : Tok) → token_with numbers u ≡ Sign m → u ≡ Sign m
    is (Number n) e = absurd (cc e)
    is (Word x) e = absurd (cc e)
    is (Reserved j) e = absurd (cc e)
    is (Sign l) e = e

  pub fixed_word : (x : List ℕ) → IsFixed numbers (Word x)
  fixed_word x = record { only = is } where
    is : (u : Tok) → token_with numbers u ≡ Word x → u ≡ Word x
    is (Number n) e = absurd (cc e)
    is (Word y) e = e
    is (Reserved j) e = absurd (cc e)
    is (Sign l) e = absurd (cc e)

  -- tokens that are a token and others
  pub record After (t : Tok) (ts us : List Tok) : Type 0 where
    pub rest : List Tok
    pub is : us ≡ t ∷ rest
    pub others : tokens_with numbers rest ≡ ts

  pub after : (t : Tok) → IsFixed numbers t → (ts us : List Tok) → tokens_with numbers us ≡ t ∷ ts → After t ts us
  after t fixed ts [] e = absurd (cc e)
  after t fixed ts (u ∷ us) e =
      let first : token_with numbers u ≡ t = cc e in
      record { rest = us; is = ap (λ v. v ∷ us) (fixed.only u first); others = cc e }

  -- tokens that are a number and others
  pub record AfterNumber (n : ℤ) (ts us : List Tok) : Type 0 where
    pub place : ℤ
    pub rest : List Tok
    pub is : us ≡ Number place ∷ rest
    pub same : digits_at numbers place ≡ n
    pub others : tokens_with numbers rest ≡ ts

  pub after_number : (n : ℤ) (ts us : List Tok) → tokens_with numbers us ≡ Number n ∷ ts → AfterNumber n ts us
  after_number n ts [] e = absurd (cc e)
  after_number n ts (Number m ∷ us) e = record { place = m; rest = us; is = refl; same = cc e; others = cc e }
  after_number n ts (Word x ∷ us) e = absurd (cc e)
  after_number n ts (Reserved k ∷ us) e = absurd (cc e)
  after_number n ts (Sign m ∷ us) e = absurd (cc e)

  -- no tokens
  pub none_left : (us : List Tok) → tokens_with numbers us ≡ [] → us ≡ []
  none_left [] e = refl
  none_left (u ∷ us) e = absurd (cc e)

  -- tokens in two parts
  pub record Parts (ts vs us : List Tok) : Type 0 where
    pub front : List Tok
    pub back : List Tok
    pub is : us ≡ front ++ back
    pub front_is : tokens_with numbers front ≡ ts
    pub back_is : tokens_with numbers back ≡ vs

  pub split_at : (ts vs us : List Tok) → tokens_with numbers us ≡ ts ++ vs → Parts ts vs us
  split_at [] vs us e = record { front = []; back = us; is = refl; front_is = refl; back_is = e }
  split_at (t ∷ ts) vs [] e = absurd (cc e)
  split_at (t ∷ ts) vs (u ∷ us) e =
      let first : token_with numbers u ≡ t = cc e in
      let others : tokens_with numbers us ≡ ts ++ vs = cc e in
      let p = split_at ts vs us others in
      let front = p.front_is in
      record {
        front = u ∷ p.front;
        back = p.back;
        is = ap (λ r. u ∷ r) p.is;
        front_is = cc (first, front);
        back_is = p.back_is;
      }

  fixed_infix : (t : Tok) (l m n : ℕ) (i : Infix)
      → ◌≡◌ {A = Option Infix} (Some (record { sign = t; level = l; left = m; right = n })) (Some i) → IsFixed numbers t → IsFixed numbers i.sign
  fixed_infix t l m n i e h = let same : t ≡ i.sign = cc e in subst (λ s. IsFixed numbers s) same h

  -- the sign of an operator
  pub fixed_operator : (op : Op2) (i : Infix) → infix_of op ≡ Some i → IsFixed numbers i.sign
  fixed_operator op2.When i e = fixed_infix (Reserved key.When) 1 1 2 i e (fixed_key key.When)
  fixed_operator op2.Or i e = fixed_infix (Reserved key.Or) 2 2 3 i e (fixed_key key.Or)
  fixed_operator op2.And i e = fixed_infix (Reserved key.And) 3 3 4 i e (fixed_key key.And)
  fixed_operator op2.Eq i e = fixed_infix (Sign mark.Equal) 5 6 6 i e (fixed_sign mark.Equal)
  fixed_operator op2.Ne i e = fixed_infix (Sign mark.NotEqual) 5 6 6 i e (fixed_sign mark.NotEqual)
  fixed_operator op2.Lt i e = fixed_infix (Sign mark.Less) 5 6 6 i e (fixed_sign mark.Less)
  fixed_operator op2.Le i e = fixed_infix (Sign mark.AtMost) 5 6 6 i e (fixed_sign mark.AtMost)
  fixed_operator op2.Gt i e = fixed_infix (Sign mark.Greater) 5 6 6 i e (fixed_sign mark.Greater)
  fixed_operator op2.Ge i e = fixed_infix (Sign mark.AtLeast) 5 6 6 i e (fixed_sign mark.AtLeast)
  fixed_operator op2.Add i e = fixed_infix (Sign mark.Plus) 6 6 7 i e (fixed_sign mark.Plus)
  fixed_operator op2.Sub i e = fixed_infix (Sign mark.Minus) 6 6 7 i e (fixed_sign mark.Minus)
  fixed_operator op2.Mul i e = fixed_infix (Sign mark.Star) 7 7 8 i e (fixed_sign mark.Star)
  fixed_operator op2.Div i e = fixed_infix (Sign mark.Slash) 7 7 8 i e (fixed_sign mark.Slash)
  fixed_operator op2.Rem i e = fixed_infix (Sign mark.Percent) 7 7 8 i e (fixed_sign mark.Percent)
  fixed_operator op2.IfNull i e = absurd (cc e)
