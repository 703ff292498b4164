-- Bytes that begin with a text.
use Rattle.std.proofs.Common.{◌≡◌, ◌≢◌, ℕ, Bool, true, false, if◌then◌else◌, List, [], ◌∷◌, ◌++◌, Option, Some, None, refl, ap, ◌∙◌}
use Rattle.std.specs.Prelude.{◌==◌}
use Rattle.std.proofs.lemmas.Bool.{eqb-true}
use Rattle.std.proofs.lemmas.Option.{none-some}
use Rattle.tilt_base.proofs.Comparisons.{same_number}
use Rattle.tilt_checkpoint.specs.Reading.{behind}

-- bytes that begin with a text are read after it
pub behind-text : (text rest : List ℕ) → behind text (text ++ rest) ≡ Some rest
behind-text [] rest = refl
behind-text (c ∷ text) rest = rw (same_number c) (behind-text text rest)

behind_head : (b c : ℕ) (text bytes rest : List ℕ) (here : Bool) → (b == c) ≡ here → (behind text bytes ≡ Some rest → bytes ≡ text ++ rest)
    → (if here then behind text bytes else None) ≡ Some rest → b ∷ bytes ≡ c ∷ text ++ rest
behind_head b c text bytes rest true is more e = λ i. eqb-true b c is i ∷ more e i
behind_head b c text bytes rest false is more e = absurd (none-some rest e)

-- and what is left follows it
pub text-behind : (text bytes rest : List ℕ) → behind text bytes ≡ Some rest → bytes ≡ text ++ rest
text-behind [] bytes rest e = cc e
text-behind (c ∷ text) [] rest e = absurd (none-some rest e)
text-behind (c ∷ text) (b ∷ bytes) rest e = behind_head b c text bytes rest (b == c) refl (text-behind text bytes rest) e

none_behind : (text bytes : List ℕ) (o : Option (List ℕ)) → ((rest : List ℕ) → bytes ≢ text ++ rest) → behind text bytes ≡ o → o ≡ None
none_behind text bytes None other e = refl
none_behind text bytes (Some rest) other e = absurd (other rest (text-behind text bytes rest e))

pub behind_none : (text bytes : List ℕ) → ((rest : List ℕ) → bytes ≢ text ++ rest) → behind text bytes ≡ None
behind_none text bytes other = none_behind text bytes (behind text bytes) other refl

pub behind_some : (text bytes rest : List ℕ) → bytes ≡ text ++ rest → behind text bytes ≡ Some rest
behind_some text bytes rest e = ap (behind text) e ∙ behind-text text rest
