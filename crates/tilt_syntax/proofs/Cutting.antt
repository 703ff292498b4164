-- The first statement and those after it are all.
use Rattle.std.proofs.Common.{◌≡◌, ◌<◌, ◌≤◌, ℕ, zero, suc, List, [], ◌∷◌, length, take, drop, refl, ap, arith}
use Rattle.std.proofs.lemmas.List.{length-map, take-map, drop-map}
use Rattle.tilt_lexer.specs.declared.mark.Mark.TheVariants as mark
use Rattle.tilt_lexer.specs.declared.token.Tok.{Tok}
use Rattle.tilt_lexer.specs.declared.token.Tok.TheVariants.{Mark as Sign}
use Rattle.tilt_lexer.specs.declared.token.Token.{Token}
use Rattle.tilt_syntax.specs.Cut.{first_length}
use Rattle.tilt_syntax.specs.Query.{kinds, AreSound, statements, with_first}

pub length-positive : (ts : List Tok) → 0 < length ts → 0 < first_length ts
length-positive [] some = absurd (omega arith)
length-positive (Sign mark.Semicolon ∷ ts) some = omega arith
length-positive (t ∷ ts) some = omega arith

pub length-within : (ts : List Tok) → first_length ts ≤ length ts
length-within [] = omega arith
length-within (Sign mark.Semicolon ∷ ts) = omega arith
length-within (t ∷ ts) = let h = length-within ts in omega arith

-- one token, and those after it
longer : (t : Tok) (ts : List Tok)
    → (0 < length ts → statements ts ≡ take (first_length ts) ts ∷ statements (drop (first_length ts) ts))
    → with_first t (statements ts) ≡ (t ∷ take (first_length ts) ts) ∷ statements (drop (first_length ts) ts)
longer t [] h = refl
longer t (u ∷ us) h = ap (with_first t) (h (omega arith))

-- the first statement's tokens, and those after it
pub cut : (ts : List Tok) → 0 < length ts → statements ts ≡ take (first_length ts) ts ∷ statements (drop (first_length ts) ts)
cut [] some = absurd (omega arith)
cut (Sign mark.Semicolon ∷ ts) some = refl
cut (t ∷ ts) some = longer t ts (cut ts)

-- sound tokens are sound at the beginning and after it
pub sound-front : (n : ℕ) (ts : List Tok) → AreSound ts → AreSound (take n ts)
sound-front zero ts h = tt
sound-front (suc n) [] h = tt
sound-front (suc n) (t ∷ ts) h = (h.0, sound-front n ts h.1)

pub sound-behind : (n : ℕ) (ts : List Tok) → AreSound ts → AreSound (drop n ts)
sound-behind zero ts h = h
sound-behind (suc n) [] h = tt
sound-behind (suc n) (t ∷ ts) h = sound-behind n ts h.1

-- there are no more statements than tokens
with_first-length : (t : Tok) (ss : List (List Tok)) → length (with_first t ss) ≤ suc (length ss)
with_first-length t [] = omega arith
with_first-length t (s ∷ ss) = omega arith

pub statements-few : (ts : List Tok) → length (statements ts) ≤ length ts
statements-few [] = omega arith
statements-few (Sign mark.Semicolon ∷ ts) = let h = statements-few ts in omega arith
statements-few (t ∷ ts) = let h = statements-few ts in let k = with_first-length t (statements ts) in omega arith

-- what is cut off the tokens of a text
pub cut-tokens : (ts front back : List Token) → 0 < length ts → front ≡ take (first_length (kinds ts)) ts
    → back ≡ drop (first_length (kinds ts)) ts
    → statements (kinds ts) ≡ kinds front ∷ statements (kinds back)
cut-tokens ts front back some f b =
    let more : 0 < length (kinds ts) = rw length-map some in
    rw (f, b, ← take-map, ← drop-map) (cut (kinds ts) more)

pub sound-front-tokens : (n : ℕ) (ts front : List Token) → front ≡ take n ts → AreSound (kinds ts) → AreSound (kinds front)
sound-front-tokens n ts front f h = rw (f, ← take-map) (sound-front n (kinds ts) h)

pub sound-behind-tokens : (n : ℕ) (ts back : List Token) → back ≡ drop n ts → AreSound (kinds ts) → AreSound (kinds back)
sound-behind-tokens n ts back b h = rw (b, ← drop-map) (sound-behind n (kinds ts) h)
