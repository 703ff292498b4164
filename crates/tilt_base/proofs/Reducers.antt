-- No two reducers have one word, and each is found by its word.
use Rattle.std.proofs.Common.{◌≡◌, ◌≢◌, inl, inr, ℕ, Bool, true, List, [], ◌∷◌, Some, None, refl, sym, ap, ◌∙◌}
use Rattle.std.specs.List.{find}
use Rattle.std.specs.Str.{bytes_eq}
use Rattle.std.proofs.lemmas.Bool.{cases_Bool}
use Rattle.std.proofs.lemmas.Option.{same_Some}
use Rattle.tilt_base.proofs.Comparisons.{bytes_same}
use Rattle.tilt_base.specs.Reduce.{reducer_with, reducer_word}
use Rattle.tilt_base.specs.declared.reducer.Reducer.{Reducer}
use Rattle.tilt_base.specs.declared.reducer.Reducer.TheVariants as reducer
use Rattle.tilt_base.specs.declared.reducer.TheConstants.{REDUCERS}

-- what is found in a list passes
pub found_passes : {X : Type 0} (p : X → Bool) (xs : List X) (x : X) → find p xs ≡ Some x → p x ≡ true
found_passes p [] x e = cc
found_passes p (y ∷ ys) x e =
    elim (cases_Bool (p y)) [
      | inl passes ↦ (let same : y ≡ x = same_Some y x (rw passes at e) in rw (← same) passes)
      | inr stops ↦ found_passes p ys x (rw stops at e)
    ]

pub reducer_with-word : (r : Reducer) → reducer_with (reducer_word r) ≡ Some r
reducer_with-word r = elim r as (λ q. reducer_with (reducer_word q) ≡ Some q) [ reducer.Sum ↦ refl | _ ↦ refl ]

-- the reducer that is found has the word, and if none is found none has it
pub reducer_found : (word : List ℕ) (r : Reducer) → reducer_with word ≡ Some r → reducer_word r ≡ word
reducer_found word r e = bytes_same (reducer_word r) word (found_passes (λ q. bytes_eq (reducer_word q) word) REDUCERS r e)

pub no_reducer_found : (word : List ℕ) → reducer_with word ≡ None → (r : Reducer) → reducer_word r ≢ word
no_reducer_found word e r same = let some = sym (reducer_with-word r) ∙ ap reducer_with same ∙ e in cc
