-- The operators keep that cells of whole numbers represent exact cells.
use Rattle.std.proofs.Common.{◌≡◌, ℕ, ℤ, pos, ◌*ℤ◌, ◌≤ℤ◌, Bool, true, false, not, if◌then◌else◌, Option, Some, None, int_lt, int_le, refl, sym, ◌∙◌, subst, arith}
use Rattle.std.specs.Ordering.{int_eq}
use Rattle.std.proofs.lemmas.Int.{ints}
use Rattle.std.proofs.Math.IntN.{zero-*ℤ}
use Rattle.tilt_base.specs.declared.operator.Op1.{Op1}
use Rattle.tilt_base.specs.declared.operator.Op1.TheVariants.{Neg, Not, IsNull}
use Rattle.tilt_base.specs.Scalar.{choose, truth}
use Rattle.tilt_fractions.proofs.Orders.{equal_by_order, same_order}
use Rattle.tilt_fractions.proofs.Standing.{negated_stands}
use Rattle.tilt_fractions.specs.Exact.{CellStandsFor, exact1, exact_choose, exact_truth, scale1, wide1}
use Rattle.tilt_fractions.specs.Fraction.{Fraction, StandsFor, is_zero, parts}

-- a whole number is zero where the fraction is
pub zero_stands : (s : ℕ) (n : ℤ) (p : Fraction) → pos 1 ≤ℤ pos s → StandsFor s n p → is_zero p ≡ int_eq n (pos 0)
zero_stands s n p h f =
    let none : pos 0 *ℤ pos s ≡ pos 0 *ℤ p.under = zero-*ℤ (pos s) ∙ sym (zero-*ℤ p.under) in
    equal_by_order p.over (pos 0) n (pos 0)
    (same_order p.over (pos 0) n (pos 0) (pos s) p.under h f.under f.same none)
    (same_order (pos 0) p.over (pos 0) n (pos s) p.under h f.under none f.same)

pub whole_stands : (n : ℤ) → StandsFor 1 n (parts n 1)
whole_stands n = record { under = omega (arith, ints); same = refl }

pub truth_stands : (a b : Bool) → a ≡ b → CellStandsFor 1 (truth b) (exact_truth a)
truth_stands a b e = subst (λ x. CellStandsFor 1 (truth b) (exact_truth x)) (sym e) (whole_stands (if b then pos 1 else pos 0))

pub at_most_is : (x y : ℤ) → int_le x y ≡ not (int_lt y x)
at_most_is x y = grind (arith, ints)

pub one_stands : (op : Op1) (s : ℕ) (a : Option ℤ) (p : Option Fraction) → pos 1 ≤ℤ pos s → CellStandsFor s a p
    → CellStandsFor (scale1 op s) (wide1 op a) (exact1 op p)
one_stands op s (Some n) None h f = absurd f
one_stands op s None (Some p) h f = absurd f
one_stands Neg s None None h f = tt
one_stands Neg s (Some n) (Some p) h f = negated_stands s n p f
one_stands Not s None None h f = tt
one_stands Not s (Some n) (Some p) h f = truth_stands (is_zero p) (int_eq n (pos 0)) (zero_stands s n p h f)
one_stands IsNull s None None h f = whole_stands (pos 1)
one_stands IsNull s (Some n) (Some p) h f = whole_stands (pos 0)

chosen_by : (s : ℕ) (here there : Bool) (a b : Option ℤ) (p q : Option Fraction) → here ≡ there → CellStandsFor s a p → CellStandsFor s b q
    → CellStandsFor s (if not there then a else b) (if here then q else p)
chosen_by s true true a b p q e f g = g
chosen_by s true false a b p q e f g = absurd (cc e)
chosen_by s false true a b p q e f g = absurd (cc e)
chosen_by s false false a b p q e f g = f

pub choice_stands : (s t : ℕ) (c a b : Option ℤ) (r p q : Option Fraction) → pos 1 ≤ℤ pos t → CellStandsFor t c r → CellStandsFor s a p → CellStandsFor s b q
    → CellStandsFor s (choose c a b) (exact_choose r p q)
choice_stands s t None a b None p q h e f g = tt
choice_stands s t (Some c) a b None p q h e f g = absurd e
choice_stands s t None a b (Some r) p q h e f g = absurd e
choice_stands s t (Some c) a b (Some r) p q h e f g = chosen_by s (is_zero r) (int_eq c (pos 0)) a b p q (zero_stands t c r h e) f g
