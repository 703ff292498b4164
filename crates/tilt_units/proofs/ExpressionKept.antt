-- A translated expression represents the exact one.
use Rattle.std.proofs.Common.{◌≡◌, ℕ, zero, suc, ◌*◌, ◌/◌, ◌%◌, ◌==◌, ◌<◌, ℤ, pos, ◌≤ℤ◌, Bool, true, false, if◌then◌else◌, Option, Some, Result, Ok, refl, sym, ap, subst, arith}
use Rattle.std.proofs.lemmas.Bool.Decides.{nat_tests}
use Rattle.std.proofs.lemmas.Int.{ints}
use Rattle.tilt_base.specs.Expression.{One, Two, If}
use Rattle.tilt_base.specs.declared.operator.Op1.{Op1}
use Rattle.tilt_base.specs.declared.operator.Op1.TheVariants.{Neg, Not, IsNull}
use Rattle.tilt_base.specs.declared.operator.Op2.{Op2}
use Rattle.tilt_base.specs.declared.operator.Op2.TheVariants.{Add, Sub, Mul, Div, Rem, Eq, Ne, Lt, Le, Gt, Ge, And, Or, When, IfNull}
use Rattle.tilt_core.specs.CoreTree.{CoreTree}
use Rattle.tilt_fractions.proofs.Cells.{choice_stands, one_stands}
use Rattle.tilt_fractions.proofs.Pairs.{quotients_stand, when_stands}
use Rattle.tilt_fractions.specs.Exact.{CellStandsFor, exact1, exact2, exact_choose, scale1}
use Rattle.tilt_fractions.specs.Fraction.{Fraction}
use Rattle.tilt_units.proofs.AlignedKept.{aligned_kept, positive_is}
use Rattle.tilt_units.proofs.Kept.{Kept, KeptPair, MayBeLiteral, Moment, after, cell_of, raised_kept}
use Rattle.tilt_units.proofs.OperatorsKept.{KeptTree, aligning_kept, at_scale, pair_kept, positive_times, product_kept, truth_is, numbers_is}
use Rattle.tilt_units.specs.Exact.{scale_in}
use Rattle.tilt_units.specs.Scale.{dividend_factor, quotient_scale}
use Rattle.tilt_units.specs.Scaling.{AlignedTrees, ScaledTree, aligned, and_then, joined_truths, quantity_of_one, quotient_of, raised, scale_of, scaled_if, scaled_one, scaled_two, truth_of}
use Rattle.tilt_units.specs.declared.decimal.Decimal.{Decimal}
use Rattle.tilt_units.specs.declared.fault.ScaleFault.{ScaleFault}
use Rattle.tilt_units.specs.declared.place.Place.{Place}
use Rattle.tilt_units.specs.declared.quantity.Quantity.{Quantity}
use Rattle.tilt_units.specs.declared.quantity.Quantity.TheVariants as quantity

-- what was given, as the translated expression
pub told : (now : Moment) (p : ℕ → Option Fraction) (t : CoreTree) (q : Quantity) (z : ScaledTree)
    → ◌≡◌ {A = Result ScaledTree ScaleFault} (Ok (record { tree = t; quantity = q })) (Ok z)
    → Kept now t q (p (scale_in q)) → KeptTree now z (p (scale_in z.quantity))
told now p t q z h k =
    let w : ScaledTree = record { tree = t; quantity = q } in
    let e : w ≡ z = cc h in
    subst (λ x. KeptTree now x (p (scale_in x.quantity))) e k

positive_factor : (u t s : ℕ) → u * t ≡ s → 0 < s → 0 < u
positive_factor zero t s e h = absurd (omega arith)
positive_factor (suc u) t s e h = omega arith

-- the scale of a quotient times that of the divisor is that of the dividend
divided_by : (even : Bool) (s t : ℕ) → (s % t == 0) ≡ even → (if even then s / t else s) * t ≡ (if even then 1 else t) * s
divided_by true s t e = let z : s % t ≡ 0 = grind (arith, nat_tests) in omega arith
divided_by false s t e = omega arith

divided : (s t : ℕ) → quotient_scale s t * t ≡ dividend_factor s t * s
divided s t = divided_by (s % t == 0) s t refl

factor_by : (even : Bool) (t : ℕ) → 0 < t → 0 < (if even then 1 else t)
factor_by true t h = omega arith
factor_by false t h = h

factor_positive : (s t : ℕ) → 0 < t → 0 < dividend_factor s t
factor_positive s t h = factor_by (s % t == 0) t h

quotient_kept : (now : Moment) (place : Place) (x y z : ScaledTree) (p q : Option Fraction)
    → KeptTree now x p → KeptTree now y q → quotient_of place x y ≡ Ok z → KeptTree now z (exact2 (scale_in z.quantity) Div p q)
quotient_kept now place x y z p q f g h =
    after (scale_of place x.quantity) _ z h (λ s is_s more.
    after (scale_of place y.quantity) (λ t. Ok (record { tree = Two Div (raised (dividend_factor s t) x.tree) y.tree; quantity = quantity.Number (quotient_scale s t) })) z more (λ t is_t done.
    let k = at_scale now place x s p is_s f in
    let l = at_scale now place y t q is_t g in
    let low = positive_times (dividend_factor s t) s (factor_positive s t (positive_is t l.positive)) (positive_is s k.positive) in
    let u = positive_factor (quotient_scale s t) t (dividend_factor s t * s) (divided s t) low in
    let r = raised_kept now (dividend_factor s t) s (dividend_factor s t * s) x.tree p refl (omega (arith, ints)) k in
    told now (λ v. exact2 v Div p q) (Two Div (raised (dividend_factor s t) x.tree) y.tree) (quantity.Number (quotient_scale s t)) z done
    (record {
      positive = omega (arith, ints);
      stands = λ stays. subst (λ c. CellStandsFor (quotient_scale s t) c (exact2 (quotient_scale s t) Div p q)) (sym stays.2)
          (quotients_stand (dividend_factor s t * s) t (quotient_scale s t) (cell_of now (raised (dividend_factor s t) x.tree)) (cell_of now y.tree) p q
          l.positive (omega (arith, ints)) (divided s t) (r.stands stays.0) (l.stands stays.1));
    })))

truths_kept : (now : Moment) (place : Place) (op : Op2) (x y z : ScaledTree) (u : ℕ) (p q : Option Fraction)
    → ((a : AlignedTrees) → KeptPair now a p q → a.quantity ≡ quantity.Truth → Kept now (Two op a.left a.right) quantity.Truth (exact2 u op p q))
    → KeptTree now x p → KeptTree now y q → joined_truths place op x y ≡ Ok z → KeptTree now z (exact2 u op p q)
truths_kept now place op x y z u p q go f g h =
    after (truth_of place x.quantity) _ z h (λ r is_r more.
    after (truth_of place y.quantity) (λ o. Ok (record { tree = Two op x.tree y.tree; quantity = quantity.Truth })) z more (λ o is_o done.
    subst (λ w. KeptTree now w (exact2 u op p q)) (cc done)
    (go (record { left = x.tree; right = y.tree; quantity = quantity.Truth })
    (record {
      left = subst (λ w. Kept now x.tree w p) (truth_is place x.quantity r is_r).0 f;
      right = subst (λ w. Kept now y.tree w q) (truth_is place y.quantity o is_o).0 g;
    }) refl)))

and_kept : (now : Moment) (u : ℕ) (p q : Option Fraction) (a : AlignedTrees) → KeptPair now a p q → a.quantity ≡ quantity.Truth
    → Kept now (Two And a.left a.right) quantity.Truth (exact2 u And p q)
and_kept now u p q a k e = pair_kept now And a quantity.Truth u p q refl refl (omega (arith, ints)) refl k

or_kept : (now : Moment) (u : ℕ) (p q : Option Fraction) (a : AlignedTrees) → KeptPair now a p q → a.quantity ≡ quantity.Truth
    → Kept now (Two Or a.left a.right) quantity.Truth (exact2 u Or p q)
or_kept now u p q a k e = pair_kept now Or a quantity.Truth u p q refl refl (omega (arith, ints)) refl k

when_kept : (now : Moment) (place : Place) (x y z : ScaledTree) (u : ℕ) (p q : Option Fraction) → KeptTree now x p → KeptTree now y q
    → and_then (truth_of place y.quantity) (λ q. Ok (record { tree = Two When x.tree y.tree; quantity = x.quantity })) ≡ Ok z → KeptTree now z (exact2 u When p q)
when_kept now place x y z u p q f g h =
    after (truth_of place y.quantity) (λ q. Ok (record { tree = Two When x.tree y.tree; quantity = x.quantity })) z h (λ o is done.
    told now (λ v. exact2 u When p q) (Two When x.tree y.tree) x.quantity z done
    (record {
      positive = f.positive;
      stands = λ stays. subst (λ c. CellStandsFor (scale_in x.quantity) c (exact2 u When p q)) (sym stays.2)
          (when_stands (scale_in x.quantity) (scale_in y.quantity) (cell_of now x.tree) (cell_of now y.tree) p q g.positive (f.stands stays.0) (g.stands stays.1));
    }))

pub two_kept : (now : Moment) (place : Place) (op : Op2) (d e : Option Decimal) (x y z : ScaledTree) (p q : Option Fraction)
    → MayBeLiteral d p → MayBeLiteral e q → KeptTree now x p → KeptTree now y q
    → scaled_two place op d e x y ≡ Ok z → KeptTree now z (exact2 (scale_in z.quantity) op p q)
two_kept now place Mul d e x y z p q k l f g h = product_kept now place x y z (scale_in z.quantity) p q f g h
two_kept now place Div d e x y z p q k l f g h = quotient_kept now place x y z p q f g h
two_kept now place And d e x y z p q k l f g h = truths_kept now place And x y z (scale_in z.quantity) p q (and_kept now (scale_in z.quantity) p q) f g h
two_kept now place Or d e x y z p q k l f g h = truths_kept now place Or x y z (scale_in z.quantity) p q (or_kept now (scale_in z.quantity) p q) f g h
two_kept now place When d e x y z p q k l f g h = when_kept now place x y z (scale_in z.quantity) p q f g h
two_kept now place Add d e x y z p q k l f g h = aligning_kept now place Add d e x y z (scale_in z.quantity) p q k l f g refl h
two_kept now place Sub d e x y z p q k l f g h = aligning_kept now place Sub d e x y z (scale_in z.quantity) p q k l f g refl h
two_kept now place Rem d e x y z p q k l f g h = aligning_kept now place Rem d e x y z (scale_in z.quantity) p q k l f g refl h
two_kept now place Eq d e x y z p q k l f g h = aligning_kept now place Eq d e x y z (scale_in z.quantity) p q k l f g refl h
two_kept now place Ne d e x y z p q k l f g h = aligning_kept now place Ne d e x y z (scale_in z.quantity) p q k l f g refl h
two_kept now place Lt d e x y z p q k l f g h = aligning_kept now place Lt d e x y z (scale_in z.quantity) p q k l f g refl h
two_kept now place Le d e x y z p q k l f g h = aligning_kept now place Le d e x y z (scale_in z.quantity) p q k l f g refl h
two_kept now place Gt d e x y z p q k l f g h = aligning_kept now place Gt d e x y z (scale_in z.quantity) p q k l f g refl h
two_kept now place Ge d e x y z p q k l f g h = aligning_kept now place Ge d e x y z (scale_in z.quantity) p q k l f g refl h
two_kept now place IfNull d e x y z p q k l f g h = aligning_kept now place IfNull d e x y z (scale_in z.quantity) p q k l f g refl h

pub if_kept : (now : Moment) (place : Place) (d e : Option Decimal) (c x y z : ScaledTree) (r p q : Option Fraction)
    → MayBeLiteral d p → MayBeLiteral e q → KeptTree now c r → KeptTree now x p → KeptTree now y q
    → scaled_if place d e c x y ≡ Ok z → KeptTree now z (exact_choose r p q)
if_kept now place d e c x y z r p q k l i f g h =
    after (truth_of place c.quantity) _ z h (λ o is_o more.
    after (aligned place d e x y) (λ a. Ok (record { tree = If c.tree a.left a.right; quantity = a.quantity })) z more (λ a is done.
    let pair = aligned_kept now place d e x.tree x.quantity y.tree y.quantity p q a k l f g is in
    told now (λ v. exact_choose r p q) (If c.tree a.left a.right) a.quantity z done
    (record {
      positive = pair.left.positive;
      stands = λ stays. choice_stands (scale_in a.quantity) (scale_in c.quantity) (cell_of now c.tree) (cell_of now a.left) (cell_of now a.right) r p q
          i.positive (i.stands stays.0) (pair.left.stands stays.1) (pair.right.stands stays.2);
    })))

one_quantity : (place : Place) (op : Op1) (q r : Quantity) → quantity_of_one place op q ≡ Ok r → (scale1 op (scale_in q) ≡ scale_in r)
one_quantity place Neg q r h = ap scale_in (numbers_is place q r h)
one_quantity place Not q r h = sym (ap scale_in (truth_is place q r h).1)
one_quantity place IsNull q r h = let e : quantity.Truth ≡ r = cc h in ap scale_in e

one_positive : (op : Op1) (s : ℕ) → pos 1 ≤ℤ pos s → pos 1 ≤ℤ pos (scale1 op s)
one_positive Neg s h = h
one_positive Not s h = omega (arith, ints)
one_positive IsNull s h = omega (arith, ints)

pub one_kept : (now : Moment) (place : Place) (op : Op1) (x z : ScaledTree) (p : Option Fraction) → KeptTree now x p
    → scaled_one place op x ≡ Ok z → KeptTree now z (exact1 op p)
one_kept now place op x z p f h =
    after (quantity_of_one place op x.quantity) (λ q. Ok (record { tree = One op x.tree; quantity = q })) z h (λ r is done.
    let e = one_quantity place op x.quantity r is in
    told now (λ v. exact1 op p) (One op x.tree) r z done
    (record {
      positive = subst (λ s. pos 1 ≤ℤ pos s) e (one_positive op (scale_in x.quantity) f.positive);
      stands = λ stays. subst (λ s. CellStandsFor s (cell_of now (One op x.tree)) (exact1 op p)) e
          (subst (λ c. CellStandsFor (scale1 op (scale_in x.quantity)) c (exact1 op p)) (sym stays.1)
          (one_stands op (scale_in x.quantity) (cell_of now x.tree) p f.positive (f.stands stays.0)));
    }))
