-- Aligned operands represent the same fractions.
use Rattle.std.proofs.Common.{◌≡◌, ℕ, ◌/◌, ◌<◌, ℤ, pos, ◌≤ℤ◌, Option, Some, None, Ok, subst, arith}
use Rattle.std.proofs.lemmas.Int.{ints}
use Rattle.tilt_base.specs.Expression.{Leaf}
use Rattle.tilt_core.specs.CoreTree.{CoreTree, Const}
use Rattle.tilt_fractions.specs.Fraction.{Fraction}
use Rattle.tilt_units.proofs.Kept.{Kept, KeptPair, MayBeLiteral, Moment, after, common_is, found, literal_kept, raised_kept}
use Rattle.tilt_units.specs.Scale.{common_scale}
use Rattle.tilt_units.specs.Scaling.{AlignedTrees, aligned_by, aligned_numbers, in_common, literal_at, or_fault, raised}
use Rattle.tilt_units.specs.declared.decimal.Decimal.{Decimal}
use Rattle.tilt_units.specs.declared.fault.ScaleFault.TheVariants as fault
use Rattle.tilt_units.specs.declared.place.Place.{Place}
use Rattle.tilt_units.specs.declared.quantity.Quantity.{Quantity}
use Rattle.tilt_units.specs.declared.quantity.Quantity.TheVariants as quantity

pub positive_is : (s : ℕ) → pos 1 ≤ℤ pos s → 0 < s
positive_is s h = omega (arith, ints)

common_kept : (now : Moment) (place : Place) (x : CoreTree) (s : ℕ) (y : CoreTree) (t : ℕ) (p q : Option Fraction) (a : AlignedTrees)
    → Kept now x (quantity.Number s) p → Kept now y (quantity.Number t) q
    → in_common place x s y t ≡ Ok a → KeptPair now a p q
common_kept now place x s y t p q a f g e =
    after (or_fault (fault.ScalesDiffer place) (common_scale s t))
    (λ common. Ok (record { left = raised (common / s) x; right = raised (common / t) y; quantity = quantity.Number common })) a e
    (λ common is done.
    let c = common_is s t common (positive_is s f.positive) (positive_is t g.positive) (found (fault.ScalesDiffer place) (common_scale s t) common is) in
    subst (λ b. KeptPair now b p q) (cc done)
    (record {
      left = raised_kept now (common / s) s common x p c.left c.positive f;
      right = raised_kept now (common / t) t common y q c.right c.positive g;
    }))

numbers_kept : (now : Moment) (place : Place) (d e : Option Decimal) (x : CoreTree) (s : ℕ) (y : CoreTree) (t : ℕ) (p q : Option Fraction)
    (a : AlignedTrees) → MayBeLiteral d p → MayBeLiteral e q
    → Kept now x (quantity.Number s) p → Kept now y (quantity.Number t) q
    → aligned_numbers place d e x s y t ≡ Ok a → KeptPair now a p q
numbers_kept now place (Some d) None x s y t p q a k l f g e =
    after (literal_at place d t) (λ n. Ok (record { left = Leaf (Const n); right = y; quantity = quantity.Number t })) a e
    (λ n is done. subst (λ b. KeptPair now b p q) (cc done)
    (record { left = literal_kept now place d t n p g.positive k is; right = g }))
numbers_kept now place None (Some d) x s y t p q a k l f g e =
    after (literal_at place d s) (λ n. Ok (record { left = x; right = Leaf (Const n); quantity = quantity.Number s })) a e
    (λ n is done. subst (λ b. KeptPair now b p q) (cc done)
    (record { left = f; right = literal_kept now place d s n q f.positive l is }))
numbers_kept now place None None x s y t p q a k l f g e = common_kept now place x s y t p q a f g e
numbers_kept now place (Some d) (Some i) x s y t p q a k l f g e = common_kept now place x s y t p q a f g e

pub aligned_kept : (now : Moment) (place : Place) (d e : Option Decimal) (x : CoreTree) (r : Quantity) (y : CoreTree) (o : Quantity)
    (p q : Option Fraction) (a : AlignedTrees) → MayBeLiteral d p → MayBeLiteral e q
    → Kept now x r p → Kept now y o q → aligned_by place d e x r y o ≡ Ok a → KeptPair now a p q
aligned_kept now place d e x quantity.Truth y quantity.Truth p q a k l f g h =
    subst (λ b. KeptPair now b p q) (cc h) (record { left = f; right = g })
aligned_kept now place d e x (quantity.Number s) y (quantity.Number t) p q a k l f g h =
    numbers_kept now place d e x s y t p q a k l f g h
aligned_kept now place d e x quantity.Truth y (quantity.Number t) p q a k l f g h = absurd (cc h)
aligned_kept now place d e x (quantity.Number s) y quantity.Truth p q a k l f g h = absurd (cc h)
