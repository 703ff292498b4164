-- Words that spell numbers.
use Rattle.std.proofs.Common.{◌≡◌, ◌≢◌, ℕ, List, Option, Some, None, ℤ, FitsSigned, refl, sym, ap, ◌∙◌, subst}
use Rattle.std.specs.Fmt.{signed_decimal}
use Rattle.std.specs.Int.{w64}
use Rattle.std.specs.Str.{bytes_eq}
use Rattle.std.proofs.lemmas.Option.{cond_some}
use Rattle.tilt_base.specs.Number.{number_spelled}
use Rattle.tilt_base.proofs.Comparisons.{bytes_same, same_bytes}
use Rattle.tilt_base.proofs.Decimals.{number_spelled-signed_decimal, number_spelled_fits}
use Rattle.tilt_text.specs.Spelled.{shortest, where_shortest}
use Rattle.tilt_text.proofs.Step.{bind_some}

-- a shortest decimal is read as its number
pub shortest-signed : (z : ℤ) → FitsSigned w64 z → shortest (signed_decimal z) ≡ Some z
shortest-signed z fits = rw (number_spelled-signed_decimal z fits, same_bytes (signed_decimal z)) refl

-- and nothing else is
pub signed-shortest : (word : List ℕ) (z : ℤ) → shortest word ≡ Some z → (word ≡ signed_decimal z) × FitsSigned w64 z
signed-shortest word z e =
    let b = bind_some (number_spelled word) (where_shortest word) z e in
    let g = cond_some (bytes_eq (signed_decimal b.0) word) b.0 z b.2 in
    let same = bytes_same (signed_decimal b.0) word g.0 in
    (sym same ∙ ap signed_decimal g.1, subst (FitsSigned w64) g.1 (number_spelled_fits word b.0 b.1))

pub shortest_some : (word : List ℕ) (z : ℤ) → FitsSigned w64 z → word ≡ signed_decimal z → Some z ≡ shortest word
shortest_some word z fits e = sym (ap shortest e ∙ shortest-signed z fits)

none_with : (word : List ℕ) (o : Option ℤ) → ((z : ℤ) → FitsSigned w64 z → word ≢ signed_decimal z) → o ≡ shortest word → o ≡ None
none_with word None other e = refl
none_with word (Some z) other e = let s = signed-shortest word z (sym e) in absurd (other z s.1 s.0)

pub shortest_none : (word : List ℕ) → ((z : ℤ) → FitsSigned w64 z → word ≢ signed_decimal z) → None ≡ shortest word
shortest_none word other = sym (none_with word (shortest word) other refl)
