-- Numbers after a letter.
use Rattle.std.proofs.Common.{◌≡◌, ℕ, ◌^◌, ◌<◌, nat_lt, List, [], ◌∷◌, Option, Some, ℤ, pos, negsuc, FitsSigned, ap, ◌∙◌, arith}
use Rattle.std.specs.Fmt.{decimal, signed_decimal}
use Rattle.std.specs.Int.{w64}
use Rattle.std.specs.Prelude.{◌==◌}
use Rattle.std.proofs.lemmas.Bool.{eqb-true}
use Rattle.std.proofs.lemmas.Bool.Decides.{nat_tests, Decides-ltb}
use Rattle.std.proofs.lemmas.Option.{cond_some, none-some}
use Rattle.tilt_base.proofs.Comparisons.{same_number}
use Rattle.tilt_base.proofs.Lists.{guard_some}
use Rattle.tilt_text.specs.Spelled.{shortest}
use Rattle.tilt_text.specs.Step.{◌>>=◌}
use Rattle.tilt_text.proofs.Numbers.{shortest-signed, signed-shortest}
use Rattle.tilt_text.proofs.Step.{bind_some}
use Rattle.tilt_code.specs.Reading.{within_u32, named}

within_u32_is : (z : ℤ) (n : ℕ) → within_u32 z ≡ Some n → (z ≡ pos n) × (n < 2 ^ 32)
within_u32_is (pos m) n e =
    let kept = cond_some (nat_lt m (2 ^ 32)) m n e in
    let below = (Decides-ltb m (2 ^ 32)).0 kept.0 in
    (ap pos kept.1, omega (arith, below, kept.1))
within_u32_is (negsuc m) n e = absurd (none-some n e)

fits_u32 : (n : ℕ) → n < 2 ^ 32 → FitsSigned w64 (pos n)
fits_u32 n small = record { sfits = omega arith }

within_u32-pos : (n : ℕ) → n < 2 ^ 32 → within_u32 (pos n) ≡ Some n
within_u32-pos n small = grind (arith, nat_tests)

-- a number without a sign is read after its letter
pub named-decimal : (letter n : ℕ) → n < 2 ^ 32 → named letter (letter ∷ decimal n) ≡ Some n
named-decimal letter n small =
    rw (same_number letter) (ap (λ (o : Option ℤ). o >>= within_u32) (shortest-signed (pos n) (fits_u32 n small)) ∙ within_u32-pos n small)

pub decimal-named : (letter : ℕ) (word : List ℕ) (n : ℕ) → named letter word ≡ Some n → (word ≡ letter ∷ decimal n) × (n < 2 ^ 32)
decimal-named letter [] n e = absurd (none-some n e)
decimal-named letter (b ∷ bs) n e =
    let g = guard_some (b == letter) (shortest bs >>= within_u32) n e in
    let number = bind_some (shortest bs) within_u32 n g.1 in
    let is = within_u32_is number.0 n number.2 in
    let spelled = signed-shortest bs number.0 number.1 in
    let first = eqb-true b letter g.0 in
    (λ i. first i ∷ (spelled.0 ∙ ap signed_decimal is.0) i, is.1)
