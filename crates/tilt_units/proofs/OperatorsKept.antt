-- Operators keep that their operands represent fractions.
use Rattle.std.proofs.Common.{◌≡◌, ℕ, zero, suc, ◌*◌, ◌<◌, ◌^◌, ℤ, pos, ◌≤ℤ◌, Bool, true, false, if◌then◌else◌, Option, Some, None, Ok, nat_lt, refl, sym, subst, arith}
use Rattle.std.proofs.lemmas.Int.{ints}
use Rattle.tilt_base.specs.Expression.{Two}
use Rattle.tilt_base.specs.declared.operator.Op2.{Op2}
use Rattle.tilt_base.specs.declared.operator.Op2.TheVariants.{Add, Sub, Mul, Div, Rem, Eq, Ne, Lt, Le, Gt, Ge, And, Or, When, IfNull}
use Rattle.tilt_fractions.proofs.Pairs.{products_stand, two_stand}
use Rattle.tilt_fractions.specs.Exact.{CellStandsFor, exact2, needs_one_scale, scale2, wide2}
use Rattle.tilt_fractions.specs.Fraction.{Fraction}
use Rattle.tilt_units.proofs.AlignedKept.{aligned_kept, positive_is}
use Rattle.tilt_units.proofs.Kept.{Kept, KeptPair, MayBeLiteral, Moment, after, cell_of, found}
use Rattle.tilt_units.specs.Exact.{scale_in}
use Rattle.tilt_units.specs.Scale.{product_scale}
use Rattle.tilt_units.specs.Scaling.{AlignedTrees, ScaledTree, aligned, and_then, joined_numbers, compared_numbers, numbers_of, or_fault, product_of, scale_of, scaled_aligned, truth_of}
use Rattle.tilt_units.specs.declared.decimal.Decimal.{Decimal}
use Rattle.tilt_units.specs.declared.fault.ScaleFault.TheVariants as fault
use Rattle.tilt_units.specs.declared.place.Place.{Place}
use Rattle.tilt_units.specs.declared.quantity.Quantity.{Quantity}
use Rattle.tilt_units.specs.declared.quantity.Quantity.TheVariants as quantity

-- a translated expression represents an exact cell
abbrev pub KeptTree : Moment → ScaledTree → Option Fraction → Type 0
KeptTree now z p = Kept now z.tree z.quantity p

scale_is : (place : Place) (q : Quantity) (s : ℕ) → scale_of place q ≡ Ok s → q ≡ quantity.Number s
scale_is place (quantity.Number t) s h = cc h
scale_is place quantity.Truth s h = absurd (cc h)

pub numbers_is : (place : Place) (q r : Quantity) → numbers_of place q ≡ Ok r → q ≡ r
numbers_is place (quantity.Number t) r h = cc h
numbers_is place quantity.Truth r h = absurd (cc h)

pub truth_is : (place : Place) (q r : Quantity) → truth_of place q ≡ Ok r → (q ≡ quantity.Truth) × (r ≡ quantity.Truth)
truth_is place quantity.Truth r h = (refl, cc h)
truth_is place (quantity.Number t) r h = absurd (cc h)

moved : (s r : ℕ) (c d : Option ℤ) (p q : Option Fraction) → s ≡ r → c ≡ d → p ≡ q → CellStandsFor s d p → CellStandsFor r c q
moved s r c d p q e f g h =
    subst (λ x. CellStandsFor r x q) (sym f) (subst (λ x. CellStandsFor r d x) g (subst (λ x. CellStandsFor x d p) e h))

-- an operator on operands at one scale
pub pair_kept : (now : Moment) (op : Op2) (a : AlignedTrees) (r : Quantity) (u : ℕ) (p q : Option Fraction) → needs_one_scale op ≡ true
    → scale2 op (scale_in a.quantity) ≡ scale_in r → pos 1 ≤ℤ pos (scale_in r) → exact2 (scale_in a.quantity) op p q ≡ exact2 u op p q
    → KeptPair now a p q → Kept now (Two op a.left a.right) r (exact2 u op p q)
pair_kept now op a r u p q o e h same k = record {
  positive = h;
  stands = λ stays. moved (scale2 op (scale_in a.quantity)) (scale_in r) (cell_of now (Two op a.left a.right))
      (wide2 op (cell_of now a.left) (cell_of now a.right)) (exact2 (scale_in a.quantity) op p q) (exact2 u op p q) e stays.2 same
      (two_stand op (scale_in a.quantity) (cell_of now a.left) (cell_of now a.right) p q o k.left.positive (k.left.stands stays.0) (k.right.stands stays.1));
}

joined_kept : (now : Moment) (place : Place) (op : Op2) (a : AlignedTrees) (z : ScaledTree) (u : ℕ) (p q : Option Fraction)
    → needs_one_scale op ≡ true → scale2 op (scale_in a.quantity) ≡ scale_in a.quantity → exact2 (scale_in a.quantity) op p q ≡ exact2 u op p q
    → KeptPair now a p q → joined_numbers place op a ≡ Ok z → KeptTree now z (exact2 u op p q)
joined_kept now place op a z u p q o e same k h =
    after (numbers_of place a.quantity) (λ r. Ok (record { tree = Two op a.left a.right; quantity = r })) z h (λ r is done.
    subst (λ y. KeptTree now y (exact2 u op p q)) (cc done)
    (subst (λ y. Kept now (Two op a.left a.right) y (exact2 u op p q)) (numbers_is place a.quantity r is)
    (pair_kept now op a a.quantity u p q o e k.left.positive same k)))

compared_kept : (now : Moment) (place : Place) (op : Op2) (a : AlignedTrees) (z : ScaledTree) (u : ℕ) (p q : Option Fraction)
    → needs_one_scale op ≡ true → scale2 op (scale_in a.quantity) ≡ 1 → exact2 (scale_in a.quantity) op p q ≡ exact2 u op p q
    → KeptPair now a p q → compared_numbers place op a ≡ Ok z → KeptTree now z (exact2 u op p q)
compared_kept now place op a z u p q o e same k h =
    after (scale_of place a.quantity) (λ s. Ok (record { tree = Two op a.left a.right; quantity = quantity.Truth })) z h (λ s is done.
    subst (λ y. KeptTree now y (exact2 u op p q)) (cc done)
    (pair_kept now op a quantity.Truth u p q o e (omega (arith, ints)) same k))

-- an operator on aligned operands
aligned_op_kept : (now : Moment) (place : Place) (op : Op2) (a : AlignedTrees) (z : ScaledTree) (u : ℕ) (p q : Option Fraction)
    → needs_one_scale op ≡ true → KeptPair now a p q → scaled_aligned place op a ≡ Ok z → KeptTree now z (exact2 u op p q)
aligned_op_kept now place Add a z u p q o k h = joined_kept now place Add a z u p q refl refl refl k h
aligned_op_kept now place Sub a z u p q o k h = joined_kept now place Sub a z u p q refl refl refl k h
aligned_op_kept now place Rem a z u p q o k h = joined_kept now place Rem a z u p q refl refl refl k h
aligned_op_kept now place Lt a z u p q o k h = compared_kept now place Lt a z u p q refl refl refl k h
aligned_op_kept now place Le a z u p q o k h = compared_kept now place Le a z u p q refl refl refl k h
aligned_op_kept now place Gt a z u p q o k h = compared_kept now place Gt a z u p q refl refl refl k h
aligned_op_kept now place Ge a z u p q o k h = compared_kept now place Ge a z u p q refl refl refl k h
aligned_op_kept now place Eq a z u p q o k h =
    subst (λ y. KeptTree now y (exact2 u Eq p q)) (cc h) (pair_kept now Eq a quantity.Truth u p q refl refl (omega (arith, ints)) refl k)
aligned_op_kept now place Ne a z u p q o k h =
    subst (λ y. KeptTree now y (exact2 u Ne p q)) (cc h) (pair_kept now Ne a quantity.Truth u p q refl refl (omega (arith, ints)) refl k)
aligned_op_kept now place And a z u p q o k h =
    subst (λ y. KeptTree now y (exact2 u And p q)) (cc h) (pair_kept now And a quantity.Truth u p q refl refl (omega (arith, ints)) refl k)
aligned_op_kept now place Or a z u p q o k h =
    subst (λ y. KeptTree now y (exact2 u Or p q)) (cc h) (pair_kept now Or a quantity.Truth u p q refl refl (omega (arith, ints)) refl k)
aligned_op_kept now place IfNull a z u p q o k h =
    subst (λ y. KeptTree now y (exact2 u IfNull p q)) (cc h) (pair_kept now IfNull a a.quantity u p q refl refl k.left.positive refl k)
aligned_op_kept now place Mul a z u p q o k h = absurd (cc o)
aligned_op_kept now place Div a z u p q o k h = absurd (cc o)
aligned_op_kept now place When a z u p q o k h = absurd (cc o)

pub aligning_kept : (now : Moment) (place : Place) (op : Op2) (d e : Option Decimal) (x y z : ScaledTree) (u : ℕ) (p q : Option Fraction)
    → MayBeLiteral d p → MayBeLiteral e q → KeptTree now x p → KeptTree now y q
    → needs_one_scale op ≡ true → and_then (aligned place d e x y) (λ a. scaled_aligned place op a) ≡ Ok z → KeptTree now z (exact2 u op p q)
aligning_kept now place op d e x y z u p q k l f g o h =
    after (aligned place d e x y) (λ a. scaled_aligned place op a) z h (λ a is done.
    aligned_op_kept now place op a z u p q o (aligned_kept now place d e x.tree x.quantity y.tree y.quantity p q a k l f g is) done)

product_scale_by : (holds : Bool) (n u : ℕ) → (if holds then Some n else None) ≡ Some u → n ≡ u
product_scale_by true n u h = cc h
product_scale_by false n u h = absurd (cc h)

pub positive_times : (s t : ℕ) → 0 < s → 0 < t → 0 < s * t
positive_times zero t h g = absurd (omega arith)
positive_times (suc s) zero h g = absurd (omega arith)
positive_times (suc s) (suc t) h g = omega arith

pub at_scale : (now : Moment) (place : Place) (x : ScaledTree) (s : ℕ) (p : Option Fraction) → scale_of place x.quantity ≡ Ok s → KeptTree now x p
    → Kept now x.tree (quantity.Number s) p
at_scale now place x s p is f = subst (λ q. Kept now x.tree q p) (scale_is place x.quantity s is) f

pub product_kept : (now : Moment) (place : Place) (x y z : ScaledTree) (v : ℕ) (p q : Option Fraction) → KeptTree now x p → KeptTree now y q
    → product_of place x y ≡ Ok z → KeptTree now z (exact2 v Mul p q)
product_kept now place x y z v p q f g h =
    after (scale_of place x.quantity) _ z h (λ s is_s more.
    after (scale_of place y.quantity) _ z more (λ t is_t rest.
    after (or_fault (fault.ScaleTooLarge place) (product_scale s t)) (λ u. Ok (record { tree = Two Mul x.tree y.tree; quantity = quantity.Number u })) z rest (λ u is done.
    let k = at_scale now place x s p is_s f in
    let l = at_scale now place y t q is_t g in
    let n = product_scale_by (nat_lt (s * t) (2 ^ 63)) (s * t) u (found (fault.ScaleTooLarge place) (product_scale s t) u is) in
    subst (λ w. KeptTree now w (exact2 v Mul p q)) (cc done)
    (subst (λ w. Kept now (Two Mul x.tree y.tree) (quantity.Number w) (exact2 v Mul p q)) n
    (record {
      positive = (let i = positive_times s t (positive_is s k.positive) (positive_is t l.positive) in omega (arith, ints));
      stands = λ stays. subst (λ c. CellStandsFor (s * t) c (exact2 v Mul p q)) (sym stays.2)
          (products_stand s t v (cell_of now x.tree) (cell_of now y.tree) p q (k.stands stays.0) (l.stands stays.1));
    })))))
