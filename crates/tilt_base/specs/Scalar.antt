-- The scalar operators on cells, each on numbers and on null (our own rule). A cell is null or a number of 64 bits; any number but 0 is
-- true.
use Rattle.std.specs.Prelude.{ℤ, pos, neg_ℤ, ◌+ℤ◌, ◌-ℤ◌, ◌*ℤ◌, Bool, true, false, not, ◌&&◌, ◌||◌, if◌then◌else◌, Option, Some, None}
use Rattle.std.specs.Prelude.{option_and_then, int_lt, int_le, int_div, int_rem}
use Rattle.std.specs.Ordering.{int_eq}
use Rattle.tilt_base.specs.declared.operator.Op1.{Op1}
use Rattle.tilt_base.specs.declared.operator.Op1.TheVariants.{Neg, Not, IsNull}
use Rattle.tilt_base.specs.declared.operator.Op2.{Op2}
use Rattle.tilt_base.specs.declared.operator.Op2.TheVariants.{Add, Sub, Mul, Div, Rem, Eq, Ne, Lt, Le, Gt, Ge, And, Or, When, IfNull}
use Rattle.tilt_base.specs.Number.{within_64_bits}

-- whether a number is true
abbrev pub is_true : ℤ → Bool
is_true n = not (int_eq n (pos 0))

-- 1 where a test holds, else 0
abbrev pub truth : Bool → Option ℤ
truth holds = Some (if holds then pos 1 else pos 0)

-- the quotient, truncated toward zero: null where the divisor is 0, or 64 bits don't hold it
abbrev pub quotient : ℤ → ℤ → Option ℤ
quotient a b = if int_eq b (pos 0) then None else within_64_bits (int_div a b)

-- the remainder, with the sign of the dividend: null where the divisor is 0
abbrev pub remainder : ℤ → ℤ → Option ℤ
remainder a b = if int_eq b (pos 0) then None else Some (int_rem a b)

-- the cell where it isn't null, else the other one
abbrev pub if_null : Option ℤ → Option ℤ → Option ℤ
if_null None other = other
if_null (Some n) other = Some n

-- the cell where the condition is true; null where it is 0 or null
abbrev pub when_true : Option ℤ → Option ℤ → Option ℤ
when_true None cell = None
when_true (Some c) cell = if is_true c then cell else None

-- what an operator on two numbers gives: null where one of them is null
abbrev pub of_both : (ℤ → ℤ → Option ℤ) → Option ℤ → Option ℤ → Option ℤ
of_both f a b = option_and_then (λ x. option_and_then (λ y. f x y) b) a

-- the operators on one cell
abbrev pub apply1 : Op1 → Option ℤ → Option ℤ
apply1 Neg a = option_and_then (λ x. within_64_bits (neg_ℤ x)) a
apply1 Not a = option_and_then (λ x. truth (int_eq x (pos 0))) a
apply1 IsNull None = truth true
apply1 IsNull (Some x) = truth false

-- the operators on two cells
abbrev pub apply2 : Op2 → Option ℤ → Option ℤ → Option ℤ
apply2 Add a b = of_both (λ x y. within_64_bits (x +ℤ y)) a b
apply2 Sub a b = of_both (λ x y. within_64_bits (x -ℤ y)) a b
apply2 Mul a b = of_both (λ x y. within_64_bits (x *ℤ y)) a b
apply2 Div a b = of_both quotient a b
apply2 Rem a b = of_both remainder a b
apply2 Eq a b = of_both (λ x y. truth (int_eq x y)) a b
apply2 Ne a b = of_both (λ x y. truth (not (int_eq x y))) a b
apply2 Lt a b = of_both (λ x y. truth (int_lt x y)) a b
apply2 Le a b = of_both (λ x y. truth (int_le x y)) a b
apply2 Gt a b = of_both (λ x y. truth (int_lt y x)) a b
apply2 Ge a b = of_both (λ x y. truth (int_le y x)) a b
apply2 And a b = of_both (λ x y. truth (is_true x && is_true y)) a b
apply2 Or a b = of_both (λ x y. truth (is_true x || is_true y)) a b
apply2 When a c = when_true c a
apply2 IfNull a b = if_null a b

-- `if c then a else b`: the branch that isn't chosen isn't looked at
abbrev pub choose : Option ℤ → Option ℤ → Option ℤ → Option ℤ
choose None a b = None
choose (Some c) a b = if is_true c then a else b
