-- How many tokens are left after two operands.
use Rattle.std.proofs.Common.{◌≡◌, ℕ, ◌+◌, ◌<◌, nat_lt, false, Option, Some, None, refl, arith}
use Rattle.std.specs.Prelude.{MatchOption}
use Rattle.std.proofs.lemmas.Bool.Decides.{nat_tests}
use Rattle.tilt_syntax.specs.Grammar.{Infix}
use Rattle.tilt_unit_text.specs.Size.{IsPlaces, operands_size, size_in_place}
use Rattle.tilt_unit_text.specs.declared.size.Places.{Places}

none_below : (l : ℕ) → nat_lt l 0 ≡ false
none_below l = grind (arith, nat_tests)

-- what two operands take, by how their operator is written
pub operands_by : (o : Option Infix) (p : Places) (l m a b : ℕ) → IsPlaces o p
    → operands_size o l a m b ≡ p.signs + size_in_place p.left l a + size_in_place p.right m b
operands_by None p l m a b h =
    let left : size_in_place p.left l a ≡ a = rw (h.1, none_below l) refl in
    let right : size_in_place p.right m b ≡ b = rw (h.2, none_below m) refl in
    omega (arith, left, right, h.3)
operands_by (Some i) p l m a b h = rw (h.1, h.2, h.3) refl

-- what is left after the second one
pub after_both : (r : Option ℕ) (budget middle rest signs x y all : ℕ) → all ≡ signs + x + y → middle + signs ≡ budget → rest + x ≡ middle
    → MatchOption r (rest < y) (λ s. s + y ≡ rest) → MatchOption r (budget < all) (λ s. s + all ≡ budget)
after_both None budget middle rest signs x y all e f g h = omega (arith, e, f, g, h)
after_both (Some s) budget middle rest signs x y all e f g h = omega (arith, e, f, g, h)
