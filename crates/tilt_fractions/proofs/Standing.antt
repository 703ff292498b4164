-- Whole numbers at scales represent the fractions that the operators give.
use Rattle.std.proofs.Common.{◌≡◌, ℕ, ◌*◌, ℤ, pos, neg_ℤ, ◌+ℤ◌, ◌-ℤ◌, ◌*ℤ◌, ◌≤ℤ◌, sym, ap, ◌∙◌, arith}
use Rattle.std.proofs.lemmas.Int.{ints}
use Rattle.std.proofs.Math.IntN.{*ℤ_comm}
use Rattle.tilt_base.proofs.Multiples.{mul_add, mul_neg, mul_positive}
use Rattle.tilt_fractions.proofs.Products.{mul_assoc, mul_swap}
use Rattle.tilt_fractions.specs.Fraction.{Fraction, StandsFor, sum, difference, product, negated}

pub positive_product : (a b : ℤ) → pos 1 ≤ℤ a → pos 1 ≤ℤ b → pos 1 ≤ℤ (a *ℤ b)
positive_product a b h g = let m = mul_positive a b h (omega (arith, ints)) in omega (arith, ints)

-- (a e) s = n (d e), where a s = n d
pub crosswise : (a e s n d : ℤ) → a *ℤ s ≡ n *ℤ d → (a *ℤ e) *ℤ s ≡ n *ℤ (d *ℤ e)
crosswise a e s n d p =
    ap (λ x. x *ℤ s) (*ℤ_comm a e) ∙ mul_assoc e a s ∙ ap (λ x. e *ℤ x) p ∙ mul_swap e n d ∙ ap (λ x. n *ℤ x) (*ℤ_comm e d)

-- the same of the other one
pub crosswise_other : (b d s m e : ℤ) → b *ℤ s ≡ m *ℤ e → (b *ℤ d) *ℤ s ≡ m *ℤ (d *ℤ e)
crosswise_other b d s m e q = crosswise b d s m e q ∙ ap (λ x. m *ℤ x) (*ℤ_comm e d)

-- a sum of two crosswise products
sum_same : (a b d e s n m : ℤ) → a *ℤ s ≡ n *ℤ d → b *ℤ s ≡ m *ℤ e → (a *ℤ e +ℤ b *ℤ d) *ℤ s ≡ (n +ℤ m) *ℤ (d *ℤ e)
sum_same a b d e s n m p q =
    mul_add (a *ℤ e) (b *ℤ d) s
    ∙ ap (λ x. x +ℤ (b *ℤ d) *ℤ s) (crosswise a e s n d p)
    ∙ ap (λ x. n *ℤ (d *ℤ e) +ℤ x) (crosswise_other b d s m e q)
    ∙ sym (mul_add n m (d *ℤ e))

pub sum_stands : (scale : ℕ) (n m : ℤ) (p q : Fraction) → StandsFor scale n p → StandsFor scale m q → StandsFor scale (n +ℤ m) (sum p q)
sum_stands scale n m p q f g = record {
  under = positive_product p.under q.under f.under g.under;
  same = sum_same p.over q.over p.under q.under (pos scale) n m f.same g.same;
}

negated_same : (a d s n : ℤ) → a *ℤ s ≡ n *ℤ d → neg_ℤ a *ℤ s ≡ neg_ℤ n *ℤ d
negated_same a d s n p = mul_neg a s ∙ ap neg_ℤ p ∙ sym (mul_neg n d)

pub negated_stands : (scale : ℕ) (n : ℤ) (p : Fraction) → StandsFor scale n p → StandsFor scale (neg_ℤ n) (negated p)
negated_stands scale n p f = record { under = f.under; same = negated_same p.over p.under (pos scale) n f.same }

difference_same : (a b d e s n m : ℤ) → a *ℤ s ≡ n *ℤ d → b *ℤ s ≡ m *ℤ e → (a *ℤ e -ℤ b *ℤ d) *ℤ s ≡ (n -ℤ m) *ℤ (d *ℤ e)
difference_same a b d e s n m p q =
    let h = mul_add (a *ℤ e) (neg_ℤ (b *ℤ d)) s in
    let i = mul_neg (b *ℤ d) s in
    let j = crosswise a e s n d p in
    let k = crosswise_other b d s m e q in
    let l = mul_add n (neg_ℤ m) (d *ℤ e) in
    let o = mul_neg m (d *ℤ e) in
    omega (arith, ints)

pub difference_stands : (scale : ℕ) (n m : ℤ) (p q : Fraction) → StandsFor scale n p → StandsFor scale m q → StandsFor scale (n -ℤ m) (difference p q)
difference_stands scale n m p q f g = record {
  under = positive_product p.under q.under f.under g.under;
  same = difference_same p.over q.over p.under q.under (pos scale) n m f.same g.same;
}

product_same : (a b d e s t n m : ℤ) → a *ℤ s ≡ n *ℤ d → b *ℤ t ≡ m *ℤ e → (a *ℤ b) *ℤ (s *ℤ t) ≡ (n *ℤ m) *ℤ (d *ℤ e)
product_same a b d e s t n m p q =
    mul_assoc a b (s *ℤ t) ∙ ap (λ x. a *ℤ x) (mul_swap b s t ∙ ap (λ x. s *ℤ x) q) ∙ sym (mul_assoc a s (m *ℤ e))
    ∙ ap (λ x. x *ℤ (m *ℤ e)) p ∙ mul_assoc n d (m *ℤ e) ∙ ap (λ x. n *ℤ x) (mul_swap d m e) ∙ sym (mul_assoc n m (d *ℤ e))

pub product_stands : (s t : ℕ) (n m : ℤ) (p q : Fraction) → StandsFor s n p → StandsFor t m q → StandsFor (s * t) (n *ℤ m) (product p q)
product_stands s t n m p q f g = record {
  under = positive_product p.under q.under f.under g.under;
  same = product_same p.over q.over p.under q.under (pos s) (pos t) n m f.same g.same;
}

-- a number is multiplied by as much as its scale
raised_same : (a d s k n : ℤ) → a *ℤ s ≡ n *ℤ d → a *ℤ (k *ℤ s) ≡ (k *ℤ n) *ℤ d
raised_same a d s k n p = mul_swap a k s ∙ ap (λ x. k *ℤ x) p ∙ sym (mul_assoc k n d)

pub raised_stands : (s k : ℕ) (n : ℤ) (p : Fraction) → StandsFor s n p → StandsFor (k * s) (pos k *ℤ n) p
raised_stands s k n p f = record { under = f.under; same = raised_same p.over p.under (pos s) (pos k) n f.same }
