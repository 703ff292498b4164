-- The reserved words, one by one.
use Rattle.std.proofs.Common.{◌≡◌, ℕ, Bool, true, false, List, [], ◌∷◌, IsTrue, refl, sym, ap, ◌∙◌, inl, inr}
use Rattle.std.specs.List.{list_any}
use Rattle.std.specs.Str.{bytes_eq}
use Rattle.std.proofs.lemmas.Bool.{cases_Bool}
use Rattle.tilt_base.proofs.Comparisons.{bytes_same}
use Rattle.tilt_base.specs.Reduce.{reducer_word}
use Rattle.tilt_base.specs.declared.reducer.Reducer.TheVariants as reducer
use Rattle.tilt_lexer.specs.Word.{key_text, keys, IsReserved}
use Rattle.tilt_lexer.specs.declared.key.Key.{Key}
use Rattle.tilt_lexer.specs.declared.key.Key.TheVariants as key
use Rattle.tilt_code.specs.Reading.{is_reserved}

any_some : {X : Type 0} (test : X → Bool) (xs : List X) → list_any test xs ≡ true → (x : X) × (test x ≡ true)
any_some test [] e = absurd (cc e)
any_some test (x ∷ xs) e =
    elim (cases_Bool (test x)) [ inl holds ↦ (x, holds) | inr other ↦ any_some test xs (rw other at e) ]

each_key : (k : Key) → is_reserved (key_text k) ≡ true
each_key key.Input = refl
each_key key.Let = refl
each_key key.Emit = refl
each_key key.Over = refl
each_key key.Every = refl
each_key key.From = refl
each_key key.If = refl
each_key key.Then = refl
each_key key.Else = refl
each_key key.When = refl
each_key key.Or = refl
each_key key.And = refl
each_key key.Not = refl
each_key key.TrueWord = refl
each_key key.FalseWord = refl
each_key key.IsNull = refl
each_key key.IfNull = refl
each_key key.Time = refl
each_key (key.Reducer r) = elim r as (λ q. is_reserved (reducer_word q) ≡ true) [ reducer.Sum ↦ refl | _ ↦ refl ]

pub true_reserved : (bytes : List ℕ) → IsReserved bytes → is_reserved bytes ≡ true
true_reserved bytes r = ap is_reserved (sym r.1) ∙ each_key r.0

pub reserved_true : (bytes : List ℕ) → is_reserved bytes ≡ true → IsReserved bytes
reserved_true bytes e =
    let found = any_some (λ k. bytes_eq (key_text k) bytes) keys e in
    (found.0, bytes_same (key_text found.0) bytes found.1)

-- a test that recognizes reserved words is this one
pub reserved_is : (bytes : List ℕ) (b : Bool) → (IsTrue b → IsReserved bytes) × (IsReserved bytes → IsTrue b) → b ≡ is_reserved bytes
reserved_is bytes true h = sym (true_reserved bytes (h.0 refl))
reserved_is bytes false h =
    elim (cases_Bool (is_reserved bytes)) [ inl holds ↦ absurd (cc (h.1 (reserved_true bytes holds))) | inr other ↦ sym other ]
