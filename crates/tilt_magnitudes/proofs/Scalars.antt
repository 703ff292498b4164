-- What operators give on cells within intervals is within the interval of the operator.
use Rattle.std.proofs.Common.{◌≡◌, ◌^◌, ℤ, pos, negsuc, neg_ℤ, ◌+ℤ◌, ◌-ℤ◌, ◌*ℤ◌, Bool, true, false, not, ◌&&◌, ◌||◌, if◌then◌else◌, Option, Some, None, int_lt, int_le, int_div, int_rem, nat_lt, refl, arith}
use Rattle.std.specs.Ordering.{int_eq}
use Rattle.std.proofs.lemmas.Int.{ints}
use Rattle.tilt_base.specs.Number.{within_64_bits}
use Rattle.tilt_base.specs.Scalar.{apply1, apply2, choose, if_null, is_true, of_both, quotient as quotient_cell, remainder as remainder_cell, truth, when_true}
use Rattle.tilt_base.specs.declared.operator.Op1.{Op1}
use Rattle.tilt_base.specs.declared.operator.Op1.TheVariants.{Neg, Not, IsNull}
use Rattle.tilt_base.specs.declared.operator.Op2.{Op2}
use Rattle.tilt_base.specs.declared.operator.Op2.TheVariants.{Add, Sub, Mul, Div, Rem, Eq, Ne, Lt, Le, Gt, Ge, And, Or, When, IfNull}
use Rattle.tilt_magnitudes.proofs.Products.{product_within}
use Rattle.tilt_magnitudes.proofs.Quotients.{hull_left, hull_right, negated_within, quotient_within, remainder_within}
use Rattle.tilt_magnitudes.specs.Interval.{Interval, Bounds, BoundsCell, difference, hull, interval1, interval2, negated, product, quotient, remainder, sum, truths}

-- a number that 64 bits may hold
within_by : (i : Interval) (holds : Bool) (z : ℤ) → Bounds i z → BoundsCell i (if holds then Some z else None)
within_by i true z f = f
within_by i false z f = tt

pub within_bits : (i : Interval) (z : ℤ) → Bounds i z → BoundsCell i (within_64_bits z)
within_bits i (pos n) f = within_by i (nat_lt n (2 ^ 63)) (pos n) f
within_bits i (negsuc n) f = within_by i (nat_lt n (2 ^ 63)) (negsuc n) f

pub truth_within : (holds : Bool) → BoundsCell truths (truth holds)
truth_within true = record { low = omega (arith, ints); high = omega (arith, ints) }
truth_within false = record { low = omega (arith, ints); high = omega (arith, ints) }

both_within : (a b i : Interval) (f : ℤ → ℤ → Option ℤ) → ((x y : ℤ) → Bounds a x → Bounds b y → BoundsCell i (f x y))
    → (x y : Option ℤ) → BoundsCell a x → BoundsCell b y → BoundsCell i (of_both f x y)
both_within a b i f h None y g k = tt
both_within a b i f h (Some x) None g k = tt
both_within a b i f h (Some x) (Some y) g k = h x y g k

pub sums_within : (a b : Interval) (x y : ℤ) → Bounds a x → Bounds b y → Bounds (sum a b) (x +ℤ y)
sums_within a b x y f g =
    let c = f.low in let d = f.high in let e = g.low in let h = g.high in
    record { low = omega (arith, ints); high = omega (arith, ints) }

pub differences_within : (a b : Interval) (x y : ℤ) → Bounds a x → Bounds b y → Bounds (difference a b) (x -ℤ y)
differences_within a b x y f g =
    let c = f.low in let d = f.high in let e = g.low in let h = g.high in
    record { low = omega (arith, ints); high = omega (arith, ints) }

unless_zero : (i : Interval) (is : Bool) (y : ℤ) (cell : Option ℤ) → int_eq y (pos 0) ≡ is → ((y ≡ pos 0 → ⊥) → BoundsCell i cell)
    → BoundsCell i (if is then None else cell)
unless_zero i true y cell e h = tt
unless_zero i false y cell e h = h (λ zero. absurd (grind (arith, ints)))

when_by : (i : Interval) (holds : Bool) (cell : Option ℤ) → BoundsCell i cell → BoundsCell i (if holds then cell else None)
when_by i true cell h = h
when_by i false cell h = tt

when_within : (i : Interval) (x c : Option ℤ) → BoundsCell i x → BoundsCell i (when_true c x)
when_within i x None h = tt
when_within i x (Some c) h = when_by i (is_true c) x h

pub left_within : (a b : Interval) (x : Option ℤ) → BoundsCell a x → BoundsCell (hull a b) x
left_within a b None h = tt
left_within a b (Some x) h = hull_left a b x h

pub right_within : (a b : Interval) (x : Option ℤ) → BoundsCell b x → BoundsCell (hull a b) x
right_within a b None h = tt
right_within a b (Some x) h = hull_right a b x h

if_null_within : (a b : Interval) (x y : Option ℤ) → BoundsCell a x → BoundsCell b y → BoundsCell (hull a b) (if_null x y)
if_null_within a b None y f g = right_within a b y g
if_null_within a b (Some x) y f g = hull_left a b x f

choice_by : (a b : Interval) (holds : Bool) (x y : Option ℤ) → BoundsCell a x → BoundsCell b y → BoundsCell (hull a b) (if holds then x else y)
choice_by a b true x y f g = left_within a b x f
choice_by a b false x y f g = right_within a b y g

pub choice_within : (a b : Interval) (c x y : Option ℤ) → BoundsCell a x → BoundsCell b y → BoundsCell (hull a b) (choose c x y)
choice_within a b None x y f g = tt
choice_within a b (Some c) x y f g = choice_by a b (is_true c) x y f g

pub one_within : (op : Op1) (a : Interval) (x : Option ℤ) → BoundsCell a x → BoundsCell (interval1 op a) (apply1 op x)
one_within Neg a None f = tt
one_within Neg a (Some x) f = within_bits (negated a) (neg_ℤ x) (negated_within a x f)
one_within Not a None f = tt
one_within Not a (Some x) f = truth_within (int_eq x (pos 0))
one_within IsNull a None f = truth_within true
one_within IsNull a (Some x) f = truth_within false

tests_within : (a b : Interval) (f : ℤ → ℤ → Bool) (x y : Option ℤ) → BoundsCell a x → BoundsCell b y
    → BoundsCell truths (of_both (λ x y. truth (f x y)) x y)
tests_within a b f x y g h = both_within a b truths (λ x y. truth (f x y)) (λ x y k l. truth_within (f x y)) x y g h

pub two_within : (op : Op2) (a b : Interval) (x y : Option ℤ) → BoundsCell a x → BoundsCell b y → BoundsCell (interval2 op a b) (apply2 op x y)
two_within Add a b x y f g =
    both_within a b (sum a b) (λ x y. within_64_bits (x +ℤ y)) (λ x y h k. within_bits (sum a b) (x +ℤ y) (sums_within a b x y h k)) x y f g
two_within Sub a b x y f g =
    both_within a b (difference a b) (λ x y. within_64_bits (x -ℤ y))
    (λ x y h k. within_bits (difference a b) (x -ℤ y) (differences_within a b x y h k)) x y f g
two_within Mul a b x y f g =
    both_within a b (product a b) (λ x y. within_64_bits (x *ℤ y)) (λ x y h k. within_bits (product a b) (x *ℤ y) (product_within a b x y h k)) x y f g
two_within Div a b x y f g =
    both_within a b (quotient a b) quotient_cell
    (λ x y h k. unless_zero (quotient a b) (int_eq y (pos 0)) y (within_64_bits (int_div x y)) refl
    (λ nonzero. within_bits (quotient a b) (int_div x y) (quotient_within a b x y h k nonzero))) x y f g
two_within Rem a b x y f g =
    both_within a b (remainder a b) remainder_cell
    (λ x y h k. unless_zero (remainder a b) (int_eq y (pos 0)) y (Some (int_rem x y)) refl
    (λ nonzero. remainder_within a b x y h k nonzero)) x y f g
two_within Eq a b x y f g = tests_within a b int_eq x y f g
two_within Ne a b x y f g = tests_within a b (λ x y. not (int_eq x y)) x y f g
two_within Lt a b x y f g = tests_within a b int_lt x y f g
two_within Le a b x y f g = tests_within a b int_le x y f g
two_within Gt a b x y f g = tests_within a b (λ x y. int_lt y x) x y f g
two_within Ge a b x y f g = tests_within a b (λ x y. int_le y x) x y f g
two_within And a b x y f g = tests_within a b (λ x y. is_true x && is_true y) x y f g
two_within Or a b x y f g = tests_within a b (λ x y. is_true x || is_true y) x y f g
two_within When a b x c f g = when_within a x c f
two_within IfNull a b x y f g = if_null_within a b x y f g
