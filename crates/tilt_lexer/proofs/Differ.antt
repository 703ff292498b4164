-- No two reserved words have one text, nor have two signs: each is found by its text.
use Rattle.std.proofs.Common.{◌≡◌, ◌≢◌, ℕ, List, [], ◌∷◌, Option, Some, None, refl, sym, ap, ◌∙◌}
use Rattle.std.specs.List.{find}
use Rattle.std.specs.Str.{bytes_eq}
use Rattle.std.proofs.lemmas.Option.{same_Some}
use Rattle.std.proofs.lemmas.Slice.Eq.{bytes_eq-Decides}
use Rattle.tilt_base.proofs.Reducers.{found_passes}
use Rattle.tilt_base.specs.Reduce.{reducer_word}
use Rattle.tilt_base.specs.declared.reducer.Reducer.TheVariants as reducer
use Rattle.tilt_lexer.specs.declared.key.Key.{Key}
use Rattle.tilt_lexer.specs.declared.key.Key.TheVariants as key
use Rattle.tilt_lexer.specs.declared.mark.Mark.{Mark}
use Rattle.tilt_lexer.specs.declared.mark.Mark.TheVariants as mark
use Rattle.tilt_lexer.specs.Tokens.{mark_text}
use Rattle.tilt_lexer.specs.Word.{key_text, keys}

-- the first reserved word with this text
abbrev pub key_with : List ℕ → Option Key
key_with bytes = find (λ k. bytes_eq (key_text k) bytes) keys

key_with-text : (k : Key) → key_with (key_text k) ≡ Some k
key_with-text key.Input = refl
key_with-text key.Let = refl
key_with-text key.Emit = refl
key_with-text key.Over = refl
key_with-text key.Every = refl
key_with-text key.From = refl
key_with-text key.If = refl
key_with-text key.Then = refl
key_with-text key.Else = refl
key_with-text key.When = refl
key_with-text key.Or = refl
key_with-text key.And = refl
key_with-text key.Not = refl
key_with-text key.TrueWord = refl
key_with-text key.FalseWord = refl
key_with-text key.IsNull = refl
key_with-text key.IfNull = refl
key_with-text key.Time = refl
key_with-text (key.Reducer r) =
    elim r as (λ q. key_with (reducer_word q) ≡ Some (key.Reducer q)) [ reducer.Sum ↦ refl | _ ↦ refl ]

pub same_key : (k j : Key) → key_text k ≡ key_text j → k ≡ j
same_key k j e = same_Some k j (sym (key_with-text k) ∙ ap key_with e ∙ key_with-text j)

-- the reserved word that is found has the text, and where none is found none has it
pub key_found : (k : Key) (text : List ℕ) → key_with text ≡ Some k → key_text k ≡ text
key_found k text e = (bytes_eq-Decides (key_text k) text).0 (found_passes (λ j. bytes_eq (key_text j) text) keys k e)

pub no_key_found : (k : Key) (text : List ℕ) → key_with text ≡ None → text ≢ key_text k
no_key_found k text e same = let some = sym (key_with-text k) ∙ ap key_with (sym same) ∙ e in cc

-- each sign
abbrev signs : List Mark
signs =
    mark.Semicolon ∷ mark.Assign ∷ mark.Equal ∷ mark.NotEqual ∷ mark.Less ∷ mark.AtMost ∷ mark.Greater ∷ mark.AtLeast ∷ mark.Plus ∷ mark.Minus
    ∷ mark.Star ∷ mark.Slash ∷ mark.Percent ∷ mark.OpenParen ∷ mark.CloseParen ∷ mark.OpenBracket ∷ mark.CloseBracket ∷ mark.Comma
    ∷ mark.Colon ∷ []

-- the first of them with this text
abbrev pub sign_with : List ℕ → Option Mark
sign_with bytes = find (λ m. bytes_eq (mark_text m) bytes) signs

sign_with-text : (m : Mark) → sign_with (mark_text m) ≡ Some m
sign_with-text mark.Semicolon = refl
sign_with-text mark.Assign = refl
sign_with-text mark.Equal = refl
sign_with-text mark.NotEqual = refl
sign_with-text mark.Less = refl
sign_with-text mark.AtMost = refl
sign_with-text mark.Greater = refl
sign_with-text mark.AtLeast = refl
sign_with-text mark.Plus = refl
sign_with-text mark.Minus = refl
sign_with-text mark.Star = refl
sign_with-text mark.Slash = refl
sign_with-text mark.Percent = refl
sign_with-text mark.OpenParen = refl
sign_with-text mark.CloseParen = refl
sign_with-text mark.OpenBracket = refl
sign_with-text mark.CloseBracket = refl
sign_with-text mark.Comma = refl
sign_with-text mark.Colon = refl

pub same_sign : (m n : Mark) → mark_text m ≡ mark_text n → m ≡ n
same_sign m n e = same_Some m n (sym (sign_with-text m) ∙ ap sign_with e ∙ sign_with-text n)

-- the sign that is found has the text, and where none is found none has it
pub sign_found : (m : Mark) (text : List ℕ) → sign_with text ≡ Some m → mark_text m ≡ text
sign_found m text e = (bytes_eq-Decides (mark_text m) text).0 (found_passes (λ n. bytes_eq (mark_text n) text) signs m e)

pub no_sign_found : (m : Mark) (text : List ℕ) → sign_with text ≡ None → text ≢ mark_text m
no_sign_found m text e same = let some = sym (sign_with-text m) ∙ ap sign_with (sym same) ∙ e in cc
