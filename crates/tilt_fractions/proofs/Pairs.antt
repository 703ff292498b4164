-- The operators on two cells keep that cells of whole numbers represent exact cells.
use Rattle.std.proofs.Common.{◌≡◌, ℕ, ◌*◌, ℤ, pos, ◌+ℤ◌, ◌-ℤ◌, ◌*ℤ◌, ◌≤ℤ◌, Bool, true, false, not, ◌&&◌, ◌||◌, if◌then◌else◌, Option, Some, None, int_lt, int_le, int_div, int_rem, refl, sym, ap, ◌∙◌, subst, arith}
use Rattle.std.specs.Ordering.{int_eq}
use Rattle.std.proofs.Math.IntN.{+ℤ_idl, suc_ℤ-*ℤ, zero-*ℤ}
use Rattle.tilt_base.specs.declared.operator.Op2.{Op2}
use Rattle.tilt_base.specs.declared.operator.Op2.TheVariants.{Add, Sub, Mul, Div, Rem, Eq, Ne, Lt, Le, Gt, Ge, And, Or, When, IfNull}
use Rattle.tilt_base.specs.Scalar.{is_true, of_both, remainder as whole_remainder, truth}
use Rattle.tilt_fractions.proofs.Cells.{at_most_is, truth_stands, zero_stands}
use Rattle.tilt_fractions.proofs.Orders.{equal_stands, less_stands}
use Rattle.tilt_fractions.proofs.Quotients.{quotient_stands, remainder_stands}
use Rattle.tilt_fractions.proofs.Standing.{difference_stands, product_stands, raised_stands, sum_stands}
use Rattle.tilt_fractions.specs.Exact.{CellStandsFor, exact2, exact_truth, needs_one_scale, of_fractions, scale2, wide2}
use Rattle.tilt_fractions.specs.Fraction.{Fraction, StandsFor, difference, is_equal, is_less, is_zero, product, quotient_in, remainder, sum}

both_stand : (f : ℤ → ℤ → Option ℤ) (g : Fraction → Fraction → Option Fraction) (s t r : ℕ)
    → ((n m : ℤ) (p q : Fraction) → StandsFor s n p → StandsFor t m q → CellStandsFor r (f n m) (g p q))
    → (a b : Option ℤ) (p q : Option Fraction) → CellStandsFor s a p → CellStandsFor t b q → CellStandsFor r (of_both f a b) (of_fractions g p q)
both_stand f g s t r h None b None q x y = tt
both_stand f g s t r h None b (Some p) q x y = absurd x
both_stand f g s t r h (Some n) b None q x y = absurd x
both_stand f g s t r h (Some n) None (Some p) None x y = tt
both_stand f g s t r h (Some n) None (Some p) (Some q) x y = absurd y
both_stand f g s t r h (Some n) (Some m) (Some p) None x y = absurd y
both_stand f g s t r h (Some n) (Some m) (Some p) (Some q) x y = h n m p q x y

unless_zero : (r : ℕ) (here there : Bool) (n : ℤ) (p : Fraction) → here ≡ there → StandsFor r n p
    → CellStandsFor r (if there then None else Some n) (if here then None else Some p)
unless_zero r true true n p e f = tt
unless_zero r true false n p e f = absurd (cc e)
unless_zero r false true n p e f = absurd (cc e)
unless_zero r false false n p e f = f

both_true : (x y z w : Bool) → x ≡ z → y ≡ w → (not x && not y) ≡ (not z && not w)
both_true x y z w e f = rw (e, f) refl

one_true : (x y z w : Bool) → x ≡ z → y ≡ w → (not x || not y) ≡ (not z || not w)
one_true x y z w e f = rw (e, f) refl

if_null_stands : (s : ℕ) (a b : Option ℤ) (p q : Option Fraction) → CellStandsFor s a p → CellStandsFor s b q
    → CellStandsFor s (wide2 IfNull a b) (exact2 s IfNull p q)
if_null_stands s None b None q f g = g
if_null_stands s None b (Some p) q f g = absurd f
if_null_stands s (Some n) b None q f g = absurd f
if_null_stands s (Some n) b (Some p) q f g = f

when_by : (s : ℕ) (here there : Bool) (a : Option ℤ) (p : Option Fraction) → here ≡ there → CellStandsFor s a p
    → CellStandsFor s (if not there then a else None) (if here then None else p)
when_by s true true a p e f = tt
when_by s true false a p e f = absurd (cc e)
when_by s false true a p e f = absurd (cc e)
when_by s false false a p e f = f

pub when_stands : (s t : ℕ) (a c : Option ℤ) (p r : Option Fraction) → pos 1 ≤ℤ pos t → CellStandsFor s a p → CellStandsFor t c r
    → CellStandsFor s (wide2 When a c) (exact2 s When p r)
when_stands s t a None p None h f g = tt
when_stands s t a None p (Some r) h f g = absurd g
when_stands s t a (Some c) p None h f g = absurd g
when_stands s t a (Some c) p (Some r) h f g = when_by s (is_zero r) (int_eq c (pos 0)) a p (zero_stands t c r h g) f

-- an operator on two operands at one scale
pub two_stand : (op : Op2) (s : ℕ) (a b : Option ℤ) (p q : Option Fraction) → needs_one_scale op ≡ true → pos 1 ≤ℤ pos s
    → CellStandsFor s a p → CellStandsFor s b q → CellStandsFor (scale2 op s) (wide2 op a b) (exact2 s op p q)
two_stand Add s a b p q o h = both_stand (λ x y. Some (x +ℤ y)) (λ p q. Some (sum p q)) s s s (λ n m p q f g. sum_stands s n m p q f g) a b p q
two_stand Sub s a b p q o h = both_stand (λ x y. Some (x -ℤ y)) (λ p q. Some (difference p q)) s s s (λ n m p q f g. difference_stands s n m p q f g) a b p q
two_stand Mul s a b p q o h = absurd (cc o)
two_stand Div s a b p q o h = absurd (cc o)
two_stand When s a b p q o h = absurd (cc o)
two_stand Rem s a b p q o h =
    both_stand whole_remainder (λ p q. if is_zero q then None else Some (remainder p q)) s s s
    (λ n m p q f g. unless_zero s (is_zero q) (int_eq m (pos 0)) (int_rem n m) (remainder p q) (zero_stands s m q h g) (remainder_stands s n m p q h f g)) a b p q
two_stand Eq s a b p q o h =
    both_stand (λ x y. truth (int_eq x y)) (λ p q. exact_truth (is_equal p q)) s s 1
    (λ n m p q f g. truth_stands (is_equal p q) (int_eq n m) (equal_stands s n m p q h f g)) a b p q
two_stand Ne s a b p q o h =
    both_stand (λ x y. truth (not (int_eq x y))) (λ p q. exact_truth (not (is_equal p q))) s s 1
    (λ n m p q f g. truth_stands (not (is_equal p q)) (not (int_eq n m)) (ap not (equal_stands s n m p q h f g))) a b p q
two_stand Lt s a b p q o h =
    both_stand (λ x y. truth (int_lt x y)) (λ p q. exact_truth (is_less p q)) s s 1
    (λ n m p q f g. truth_stands (is_less p q) (int_lt n m) (less_stands s n m p q h f g)) a b p q
two_stand Le s a b p q o h =
    both_stand (λ x y. truth (int_le x y)) (λ p q. exact_truth (not (is_less q p))) s s 1
    (λ n m p q f g. truth_stands (not (is_less q p)) (int_le n m) (ap not (less_stands s m n q p h g f) ∙ sym (at_most_is n m))) a b p q
two_stand Gt s a b p q o h =
    both_stand (λ x y. truth (int_lt y x)) (λ p q. exact_truth (is_less q p)) s s 1
    (λ n m p q f g. truth_stands (is_less q p) (int_lt m n) (less_stands s m n q p h g f)) a b p q
two_stand Ge s a b p q o h =
    both_stand (λ x y. truth (int_le y x)) (λ p q. exact_truth (not (is_less p q))) s s 1
    (λ n m p q f g. truth_stands (not (is_less p q)) (int_le m n) (ap not (less_stands s n m p q h f g) ∙ sym (at_most_is m n))) a b p q
two_stand And s a b p q o h =
    both_stand (λ x y. truth (is_true x && is_true y)) (λ p q. exact_truth (not (is_zero p) && not (is_zero q))) s s 1
    (λ n m p q f g. truth_stands (not (is_zero p) && not (is_zero q)) (is_true n && is_true m)
    (both_true (is_zero p) (is_zero q) (int_eq n (pos 0)) (int_eq m (pos 0)) (zero_stands s n p h f) (zero_stands s m q h g))) a b p q
two_stand Or s a b p q o h =
    both_stand (λ x y. truth (is_true x || is_true y)) (λ p q. exact_truth (not (is_zero p) || not (is_zero q))) s s 1
    (λ n m p q f g. truth_stands (not (is_zero p) || not (is_zero q)) (is_true n || is_true m)
    (one_true (is_zero p) (is_zero q) (int_eq n (pos 0)) (int_eq m (pos 0)) (zero_stands s n p h f) (zero_stands s m q h g))) a b p q
two_stand IfNull s a b p q o h = if_null_stands s a b p q

-- a product of numbers at two scales
pub products_stand : (s t u : ℕ) (a b : Option ℤ) (p q : Option Fraction) → CellStandsFor s a p → CellStandsFor t b q
    → CellStandsFor (s * t) (wide2 Mul a b) (exact2 u Mul p q)
products_stand s t u a b p q =
    both_stand (λ x y. Some (x *ℤ y)) (λ p q. Some (product p q)) s t (s * t) (λ n m p q f g. product_stands s t n m p q f g) a b p q

once : (n : ℤ) → pos 1 *ℤ n ≡ n
once n = suc_ℤ-*ℤ (pos 0) n ∙ ap (λ z. z +ℤ n) (zero-*ℤ n) ∙ +ℤ_idl n

-- a quotient, if that of the scales is whole
pub whole_quotient_stands : (s t u : ℕ) (n m : ℤ) (p q : Fraction) → pos 1 ≤ℤ pos t → pos 1 ≤ℤ pos u → u * t ≡ s
    → StandsFor s n p → StandsFor t m q → StandsFor u (int_div n m) (quotient_in u p q)
whole_quotient_stands s t u n m p q h i r f g =
    subst (λ z. StandsFor u (int_div z m) (quotient_in u p q)) (once n) (quotient_stands s t u 1 n m p q h i (omega (arith, r)) f g)

pub quotients_stand : (s t u : ℕ) (a b : Option ℤ) (p q : Option Fraction) → pos 1 ≤ℤ pos t → pos 1 ≤ℤ pos u → u * t ≡ s
    → CellStandsFor s a p → CellStandsFor t b q → CellStandsFor u (wide2 Div a b) (exact2 u Div p q)
quotients_stand s t u a b p q h i r =
    both_stand (λ x y. if int_eq y (pos 0) then None else Some (int_div x y)) (λ p q. if is_zero q then None else Some (quotient_in u p q)) s t u
    (λ n m p q f g. unless_zero u (is_zero q) (int_eq m (pos 0)) (int_div n m) (quotient_in u p q) (zero_stands t m q h g)
    (whole_quotient_stands s t u n m p q h i r f g)) a b p q

-- a number that is multiplied by as much as its scale represents the same fraction
pub raised_cells_stand : (s k : ℕ) (a : Option ℤ) (p : Option Fraction) → CellStandsFor s a p → CellStandsFor (k * s) (wide2 Mul (Some (pos k)) a) p
raised_cells_stand s k None None f = tt
raised_cells_stand s k None (Some p) f = absurd f
raised_cells_stand s k (Some n) None f = absurd f
raised_cells_stand s k (Some n) (Some p) f = raised_stands s k n p f
