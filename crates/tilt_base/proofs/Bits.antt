-- Signed numbers, compared by their bits.
use Rattle.std.proofs.Common.{◌≡◌, ℤ, nat_eq, sym, ap, ◌∙◌, to_z, of_z, SFits}
use Rattle.std.specs.Int.{Width}
use Rattle.std.proofs.lemmas.Bool.Decides.{same_from_decides, Decides-eqb, Decides-int_eq}
use Rattle.std.proofs.lemmas.Int.{to_z-of_z}
use Rattle.std.specs.Ordering.{int_eq}

-- two numbers that fit are equal where their bits are
pub int_eq-bits : (w : Width) (a b : ℤ) → SFits w a → SFits w b → nat_eq (of_z w a) (of_z w b) ≡ int_eq a b
int_eq-bits w a b f g =
    same_from_decides {P = a ≡ b} (nat_eq (of_z w a) (of_z w b)) (int_eq a b)
    (λ e. sym (to_z-of_z w a f) ∙ ap (to_z w) ((Decides-eqb (of_z w a) (of_z w b)).0 e) ∙ to_z-of_z w b g, λ e. (Decides-eqb (of_z w a) (of_z w b)).1 (ap (of_z w) e))
    (Decides-int_eq a b)
