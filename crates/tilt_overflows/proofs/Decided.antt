-- Whether a node leaves 64 bits, and what its watch gives.
use Rattle.std.proofs.Common.{◌≡◌, ◌^◌, nat_lt, ℤ, pos, negsuc, neg_ℤ, Bool, true, false, if◌then◌else◌, List, [], ◌∷◌, length, Option, Some, None, int_div, int_rem, ◌⊎◌, inl, inr, refl, sym, ◌∙◌}
use Rattle.std.specs.Ordering.{int_eq}
use Rattle.tilt_base.specs.Number.{within_64_bits}
use Rattle.tilt_base.specs.Reduce.{reduce, total}
use Rattle.tilt_base.specs.Scalar.{apply1, apply2, of_both, quotient, remainder}
use Rattle.tilt_base.specs.declared.operator.Op1.TheVariants.{IsNull, Neg}
use Rattle.tilt_base.specs.declared.operator.Op2.TheVariants.{Gt, Or}
use Rattle.tilt_base.specs.declared.reducer.Reducer.TheVariants.{Sum, Count}
use Rattle.tilt_fractions.specs.Exact.{wide1}
use Rattle.tilt_fractions.specs.ExactReduce.{wide_reduce}

-- a cell is 0 and a fact holds, or it is 1 and the fact doesn't hold
abbrev pub Decided : Option ℤ → Type 0 → Type 0
Decided cell P = ((cell ≡ Some (pos 0)) × P) ⊎ ((cell ≡ Some (pos 1)) × (P → ⊥))

pub same_fact : (cell : Option ℤ) (P Q : Type 0) → (P → Q) → (Q → P) → Decided cell P → Decided cell Q
same_fact cell P Q to from (inl d) = inl (d.0, to d.1)
same_fact cell P Q to from (inr d) = inr (d.0, λ q. d.1 (from q))

-- 1 if the first cell is null and the second isn't
abbrev pub alone : Option ℤ → Option ℤ → Option ℤ
alone x y = apply2 Gt (apply1 IsNull x) (apply1 IsNull y)

number_by : (holds : Bool) (z other : ℤ) → Decided (alone (if holds then Some z else None) (Some other)) ((if holds then Some z else None) ≡ Some z)
number_by true z other = inl (refl, refl)
number_by false z other = inr (refl, λ h. absurd (cc h))

-- beside a cell that isn't null, a number is null only if 64 bits don't hold it
pub number_decided : (z other : ℤ) → Decided (alone (within_64_bits z) (Some other)) (within_64_bits z ≡ Some z)
number_decided (pos n) other = number_by (nat_lt n (2 ^ 63)) (pos n) other
number_decided (negsuc n) other = number_by (nat_lt n (2 ^ 63)) (negsuc n) other

-- the same of an operator that is null if one of its operands is, beside another such operator
pub both_decided : (f g h : ℤ → ℤ → Option ℤ) → ((x y : ℤ) → Decided (alone (f x y) (h x y)) (f x y ≡ g x y)) → (a b : Option ℤ)
    → Decided (alone (of_both f a b) (of_both h a b)) (of_both f a b ≡ of_both g a b)
both_decided f g h each None b = inl (refl, refl)
both_decided f g h each (Some x) None = inl (refl, refl)
both_decided f g h each (Some x) (Some y) = each x y

-- a quotient beside a remainder
quotient_by : (zero : Bool) (x y : ℤ)
    → Decided (alone (if zero then None else within_64_bits (int_div x y)) (if zero then None else Some (int_rem x y)))
    ((if zero then None else within_64_bits (int_div x y)) ≡ (if zero then None else Some (int_div x y)))
quotient_by true x y = inl (refl, refl)
quotient_by false x y = number_decided (int_div x y) (int_rem x y)

pub quotient_decided : (x y : ℤ)
    → Decided (alone (quotient x y) (remainder x y)) (quotient x y ≡ (if int_eq y (pos 0) then None else Some (int_div x y)))
quotient_decided x y = quotient_by (int_eq y (pos 0)) x y

-- a sum of a window beside the count
pub sum_decided : (ns : List ℤ) → Decided (alone (reduce Sum ns) (reduce Count ns)) (reduce Sum ns ≡ wide_reduce Sum ns)
sum_decided [] = inl (refl, refl)
sum_decided (n ∷ ns) = number_decided (total (n ∷ ns)) (pos (length (n ∷ ns)))

-- a negative beside its operand
pub negative_decided : (a : Option ℤ) → Decided (alone (apply1 Neg a) a) (apply1 Neg a ≡ wide1 Neg a)
negative_decided None = inl (refl, refl)
negative_decided (Some x) = number_decided (neg_ℤ x) x

-- two facts at once
pub both_facts : (x y : Option ℤ) (P Q : Type 0) → Decided x P → Decided y Q → Decided (apply2 Or x y) (P × Q)
both_facts x y P Q (inl d) (inl e) = inl (rw (d.0, e.0) refl, (d.1, e.1))
both_facts x y P Q (inl d) (inr e) = inr (rw (d.0, e.0) refl, λ h. e.1 h.1)
both_facts x y P Q (inr d) (inl e) = inr (rw (d.0, e.0) refl, λ h. d.1 h.0)
both_facts x y P Q (inr d) (inr e) = inr (rw (d.0, e.0) refl, λ h. d.1 h.0)

-- the first fact always holds, or the second does
pub second_fact : (x y : Option ℤ) (P Q : Type 0) → x ≡ Some (pos 0) → Decided x P → Decided y Q → Decided y (P × Q)
second_fact x y P Q is (inl d) e = same_fact y Q (P × Q) (λ q. (d.1, q)) (λ h. h.1) e
second_fact x y P Q is (inr d) e = absurd (cc (sym is ∙ d.0))

pub first_fact : (x y : Option ℤ) (P Q : Type 0) → y ≡ Some (pos 0) → Decided x P → Decided y Q → Decided x (P × Q)
first_fact x y P Q is d (inl e) = same_fact x P (P × Q) (λ p. (p, e.1)) (λ h. h.0) d
first_fact x y P Q is d (inr e) = absurd (cc (sym is ∙ e.0))

-- what a cell says of the fact that it decides
pub stays_is : (cell : Option ℤ) (P : Type 0) → Decided cell P → (P → cell ≡ Some (pos 0)) × (cell ≡ Some (pos 0) → P)
stays_is cell P (inl d) = (λ p. d.0, λ is. d.1)
stays_is cell P (inr d) = (λ p. absurd (d.1 p), λ is. absurd (cc (sym is ∙ d.0)))

pub leaves_is : (cell : Option ℤ) (P : Type 0) → Decided cell P → ((P → ⊥) → cell ≡ Some (pos 1)) × (cell ≡ Some (pos 1) → P → ⊥)
leaves_is cell P (inl d) = (λ n. absurd (n d.1), λ is. absurd (cc (sym is ∙ d.0)))
leaves_is cell P (inr d) = (λ n. d.0, λ is. d.1)
