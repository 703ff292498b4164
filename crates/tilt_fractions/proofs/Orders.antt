-- A positive factor keeps order and equality.
use Rattle.std.proofs.Common.{◌≡◌, ℕ, ℤ, pos, neg_ℤ, ◌-ℤ◌, ◌*ℤ◌, ◌≤ℤ◌, ◌<ℤ◌, int_lt, sym, ap, ◌∙◌, arith}
use Rattle.std.specs.Ordering.{int_eq}
use Rattle.std.proofs.lemmas.Int.{ints, by_lt_z}
use Rattle.tilt_base.proofs.Multiples.{mul_add, mul_neg, mul_low, mul_positive}
use Rattle.tilt_fractions.proofs.Standing.{crosswise, crosswise_other, positive_product}
use Rattle.tilt_fractions.specs.Fraction.{Fraction, StandsFor, is_less, is_equal}

below_scaled : (x y k : ℤ) → pos 1 ≤ℤ k → x <ℤ y → (x *ℤ k) <ℤ (y *ℤ k)
below_scaled x y k h g =
    let a = mul_positive (y -ℤ x) k (omega (arith, ints)) (omega (arith, ints)) in
    let b = mul_add y (neg_ℤ x) k in
    let c = mul_neg x k in
    omega (arith, ints)

at_most_scaled : (x y k : ℤ) → pos 1 ≤ℤ k → x ≤ℤ y → (x *ℤ k) ≤ℤ (y *ℤ k)
at_most_scaled x y k h g =
    let a = mul_low (y -ℤ x) k (omega (arith, ints)) (omega (arith, ints)) in
    let b = mul_add y (neg_ℤ x) k in
    let c = mul_neg x k in
    omega (arith, ints)

both_less : (x y a b : ℤ) → x <ℤ y → a <ℤ b → int_lt x y ≡ int_lt a b
both_less x y a b h g = grind (arith, ints)

neither_less : (x y a b : ℤ) → y ≤ℤ x → b ≤ℤ a → int_lt x y ≡ int_lt a b
neither_less x y a b h g = grind (arith, ints)

pub less_scaled : (x y k : ℤ) → pos 1 ≤ℤ k → int_lt (x *ℤ k) (y *ℤ k) ≡ int_lt x y
less_scaled x y k h =
    by_lt_z x y
    (λ below. both_less (x *ℤ k) (y *ℤ k) x y (below_scaled x y k h below) below)
    (λ above. neither_less (x *ℤ k) (y *ℤ k) x y (at_most_scaled y x k h above) above)

-- what is equal is neither less
pub equal_by_order : (x y a b : ℤ) → int_lt x y ≡ int_lt a b → int_lt y x ≡ int_lt b a → int_eq x y ≡ int_eq a b
equal_by_order x y a b h g = grind (arith, ints)

pub same_order : (x y n m s t : ℤ) → pos 1 ≤ℤ s → pos 1 ≤ℤ t → x *ℤ s ≡ n *ℤ t → y *ℤ s ≡ m *ℤ t → int_lt x y ≡ int_lt n m
same_order x y n m s t h g p q =
    sym (less_scaled x y s h) ∙ ap (λ z. int_lt z (y *ℤ s)) p ∙ ap (λ z. int_lt (n *ℤ t) z) q ∙ less_scaled n m t g

-- fractions are in the order of the numbers at one scale that represent them
pub less_stands : (s : ℕ) (n m : ℤ) (p q : Fraction) → pos 1 ≤ℤ pos s → StandsFor s n p → StandsFor s m q → is_less p q ≡ int_lt n m
less_stands s n m p q h f g =
    same_order (p.over *ℤ q.under) (q.over *ℤ p.under) n m (pos s) (p.under *ℤ q.under) h (positive_product p.under q.under f.under g.under)
    (crosswise p.over q.under (pos s) n p.under f.same) (crosswise_other q.over p.under (pos s) m q.under g.same)

pub equal_stands : (s : ℕ) (n m : ℤ) (p q : Fraction) → pos 1 ≤ℤ pos s → StandsFor s n p → StandsFor s m q → is_equal p q ≡ int_eq n m
equal_stands s n m p q h f g =
    equal_by_order (p.over *ℤ q.under) (q.over *ℤ p.under) n m (less_stands s n m p q h f g)
    (less_stands s m n q p h g f)
