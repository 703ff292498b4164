-- A positive factor of both keeps their quotient.
use Rattle.std.proofs.Common.{◌≡◌, ℕ, zero, suc, ◌*◌, ◌/◌, ◌<◌, ◌≤◌, ℤ, pos, negsuc, neg_ℤ, ◌+ℤ◌, ◌*ℤ◌, ◌≤ℤ◌, int_div, int_rem, refl, sym, ap, ◌∙◌, arith}
use Rattle.std.proofs.lemmas.Int.{ints, quot-rem}
use Rattle.std.proofs.Math.IntN.{*ℤ_comm, pos-*ℤ-pos}
use Rattle.std.proofs.Math.Nat.{mul-div-mul_right}
use Rattle.tilt_base.proofs.Multiples.{mul_add, mul_neg}
use Rattle.tilt_fractions.proofs.Products.{mul_assoc}
use Rattle.tilt_fractions.proofs.Standing.{crosswise, crosswise_other, positive_product}
use Rattle.tilt_fractions.specs.Fraction.{Fraction, StandsFor, quotient_in, remainder}

twice_negated : (x : ℤ) → neg_ℤ (neg_ℤ x) ≡ x
twice_negated x = omega (arith, ints)

negative_dividend : (n : ℕ) (y : ℤ) → 1 ≤ n → int_div (neg_ℤ (pos n)) y ≡ neg_ℤ (int_div (pos n) y)
negative_dividend zero y h = absurd (omega arith)
negative_dividend (suc a) (pos b) h = refl
negative_dividend (suc a) (negsuc b) h = sym (twice_negated (pos (suc a / suc b)))

negative_divisor : (x : ℤ) (n : ℕ) → 1 ≤ n → int_div x (neg_ℤ (pos n)) ≡ neg_ℤ (int_div x (pos n))
negative_divisor x zero h = absurd (omega arith)
negative_divisor (pos a) (suc b) h = refl
negative_divisor (negsuc a) (suc b) h = sym (twice_negated (pos (suc a / suc b)))

times : (a t : ℕ) → pos a *ℤ pos t ≡ pos (a * t)
times a t = pos-*ℤ-pos a t

negative_times : (a t : ℕ) → negsuc a *ℤ pos t ≡ neg_ℤ (pos (suc a * t))
negative_times a t = mul_neg (pos (suc a)) (pos t) ∙ ap neg_ℤ (times (suc a) t)

at_least : (a t : ℕ) → 0 < t → 1 ≤ suc a * t
at_least a t h = omega arith

natural_quotient : (a b t : ℕ) → 0 < t → int_div (pos (a * t)) (pos (b * t)) ≡ int_div (pos a) (pos b)
natural_quotient a b t h = ap pos (mul-div-mul_right a b h)

quotient_scaled : (x y : ℤ) (t : ℕ) → 0 < t → int_div (x *ℤ pos t) (y *ℤ pos t) ≡ int_div x y
quotient_scaled (pos a) (pos b) t h = ap (λ z. int_div z (pos b *ℤ pos t)) (times a t) ∙ ap (λ z. int_div (pos (a * t)) z) (times b t) ∙ natural_quotient a b t h
quotient_scaled (pos a) (negsuc b) t h =
    ap (λ z. int_div z (negsuc b *ℤ pos t)) (times a t) ∙ ap (λ z. int_div (pos (a * t)) z) (negative_times b t)
    ∙ negative_divisor (pos (a * t)) (suc b * t) (at_least b t h) ∙ ap neg_ℤ (natural_quotient a (suc b) t h)
quotient_scaled (negsuc a) (pos b) t h =
    ap (λ z. int_div z (pos b *ℤ pos t)) (negative_times a t) ∙ ap (λ z. int_div (neg_ℤ (pos (suc a * t))) z) (times b t)
    ∙ negative_dividend (suc a * t) (pos (b * t)) (at_least a t h) ∙ ap neg_ℤ (natural_quotient (suc a) b t h)
quotient_scaled (negsuc a) (negsuc b) t h =
    ap (λ z. int_div z (negsuc b *ℤ pos t)) (negative_times a t) ∙ ap (λ z. int_div (neg_ℤ (pos (suc a * t))) z) (negative_times b t)
    ∙ negative_dividend (suc a * t) (neg_ℤ (pos (suc b * t))) (at_least a t h)
    ∙ ap neg_ℤ (negative_divisor (pos (suc a * t)) (suc b * t) (at_least b t h))
    ∙ twice_negated (int_div (pos (suc a * t)) (pos (suc b * t))) ∙ natural_quotient (suc a) (suc b) t h

quotient_of_multiples : (x y t : ℤ) → pos 1 ≤ℤ t → int_div (x *ℤ t) (y *ℤ t) ≡ int_div x y
quotient_of_multiples x y (pos t) h = quotient_scaled x y t (omega (arith, ints))
quotient_of_multiples x y (negsuc t) h = absurd (omega (arith, ints))

pub same_quotient : (x y n m s t : ℤ) → pos 1 ≤ℤ s → pos 1 ≤ℤ t → x *ℤ s ≡ n *ℤ t → y *ℤ s ≡ m *ℤ t → int_div x y ≡ int_div n m
same_quotient x y n m s t h g p q =
    sym (quotient_of_multiples x y s h) ∙ ap (λ z. int_div z (y *ℤ s)) p ∙ ap (λ z. int_div (n *ℤ t) z) q ∙ quotient_of_multiples n m t g

-- ((a e) u) t = (k n) (d e), where a s = n d and u t = s k
dividend_same : (a e u t s k n d : ℤ) → a *ℤ s ≡ n *ℤ d → u *ℤ t ≡ s *ℤ k → ((a *ℤ e) *ℤ u) *ℤ t ≡ (k *ℤ n) *ℤ (d *ℤ e)
dividend_same a e u t s k n d p r =
    mul_assoc (a *ℤ e) u t ∙ ap (λ z. (a *ℤ e) *ℤ z) r ∙ sym (mul_assoc (a *ℤ e) s k) ∙ ap (λ z. z *ℤ k) (crosswise a e s n d p)
    ∙ *ℤ_comm (n *ℤ (d *ℤ e)) k ∙ sym (mul_assoc k n (d *ℤ e))

-- a quotient of numbers at two scales, whose dividend is multiplied so that the quotient of the scales is whole
pub quotient_stands : (s t u k : ℕ) (n m : ℤ) (p q : Fraction) → pos 1 ≤ℤ pos t → pos 1 ≤ℤ pos u → u * t ≡ s * k
    → StandsFor s n p → StandsFor t m q → StandsFor u (int_div (pos k *ℤ n) m) (quotient_in u p q)
quotient_stands s t u k n m p q h i r f g =
    let e : pos u *ℤ pos t ≡ pos s *ℤ pos k = times u t ∙ ap pos r ∙ sym (times s k) in
    record {
      under = i;
      same = ap (λ z. z *ℤ pos u) (same_quotient ((p.over *ℤ q.under) *ℤ pos u) (q.over *ℤ p.under) (pos k *ℤ n) m (pos t) (p.under *ℤ q.under)
          h (positive_product p.under q.under f.under g.under)
          (dividend_same p.over q.under (pos u) (pos t) (pos s) (pos k) n p.under f.same e)
          (crosswise_other q.over p.under (pos t) m q.under g.same));
    }

-- what is left of multiples
rest_same : (x y n m s t z r o : ℤ) → z *ℤ y +ℤ r ≡ x → z *ℤ m +ℤ o ≡ n → x *ℤ s ≡ n *ℤ t → y *ℤ s ≡ m *ℤ t → r *ℤ s ≡ o *ℤ t
rest_same x y n m s t z r o a b p q =
    let c = mul_add (z *ℤ y) r s in
    let d = ap (λ w. w *ℤ s) a in
    let e = mul_assoc z y s ∙ ap (λ w. z *ℤ w) q ∙ sym (mul_assoc z m t) in
    let f = mul_add (z *ℤ m) o t in
    let g = ap (λ w. w *ℤ t) b in
    omega (arith, ints)

pub same_remainder : (x y n m s t : ℤ) → pos 1 ≤ℤ s → pos 1 ≤ℤ t → x *ℤ s ≡ n *ℤ t → y *ℤ s ≡ m *ℤ t → int_rem x y *ℤ s ≡ int_rem n m *ℤ t
same_remainder x y n m s t h g p q =
    rest_same x y n m s t (int_div n m) (int_rem x y) (int_rem n m)
    (ap (λ w. w *ℤ y +ℤ int_rem x y) (sym (same_quotient x y n m s t h g p q)) ∙ quot-rem x y) (quot-rem n m) p q

pub remainder_stands : (s : ℕ) (n m : ℤ) (p q : Fraction) → pos 1 ≤ℤ pos s → StandsFor s n p → StandsFor s m q → StandsFor s (int_rem n m) (remainder p q)
remainder_stands s n m p q h f g = record {
  under = positive_product p.under q.under f.under g.under;
  same = same_remainder (p.over *ℤ q.under) (q.over *ℤ p.under) n m (pos s) (p.under *ℤ q.under) h
      (positive_product p.under q.under f.under g.under)
      (crosswise p.over q.under (pos s) n p.under f.same) (crosswise_other q.over p.under (pos s) m q.under g.same);
}
