-- The expression that watches another one: at each tick it is 1 if a node of the other one leaves 64 bits there, and else 0. It is never
-- null. A node leaves 64 bits if its result is null and its exact result isn't (our own rule).
use Rattle.std.specs.Prelude.{ℕ, ℤ, pos, Bool, false, if◌then◌else◌}
use Rattle.std.specs.Ordering.{int_eq}
use Rattle.tilt_base.specs.Expression.{Leaf, One, Two, If}
use Rattle.tilt_base.specs.declared.operator.Op1.{Op1}
use Rattle.tilt_base.specs.declared.operator.Op1.TheVariants.{Neg, Not, IsNull}
use Rattle.tilt_base.specs.declared.operator.Op2.{Op2}
use Rattle.tilt_base.specs.declared.operator.Op2.TheVariants.{Add, Sub, Mul, Div, Rem, Eq, Gt, Or}
use Rattle.tilt_base.specs.declared.reducer.Reducer.{Reducer}
use Rattle.tilt_base.specs.declared.reducer.Reducer.TheVariants.{Sum, Count}
use Rattle.tilt_core.specs.CoreTree.{CoreTree, Const, Read, Reduce}

-- 1 if the first is null and the second isn't, else 0
abbrev pub null_alone : CoreTree → CoreTree → CoreTree
null_alone x y = Two Gt (One IsNull x) (One IsNull y)

-- 0 at every tick: nothing leaves 64 bits
abbrev pub never : CoreTree
never = Leaf (Const (pos 0))

-- whether an expression is that one
abbrev pub is_never : CoreTree → Bool
is_never (Leaf (Const number)) = int_eq number (pos 0)
is_never (Leaf (Read source offset)) = false
is_never (Leaf (Reduce reducer source from to)) = false
is_never (One op a) = false
is_never (Two op a b) = false
is_never (If c a b) = false

-- 1 if one of the two is 1, else 0
abbrev pub one_of : CoreTree → CoreTree → CoreTree
one_of x y = if is_never x then y else if is_never y then x else Two Or x y

-- 1 if the result of the operator leaves 64 bits, else 0. A negative is null for another reason only if its operand is null
abbrev pub leaves1 : Op1 → CoreTree → CoreTree
leaves1 Neg a = null_alone (One Neg a) a
leaves1 Not a = never
leaves1 IsNull a = never

-- The same of two operands. A sum, a difference and a product are null for another reason only if an operand is null, and then a comparison
-- is null. A quotient may also be null because the divisor is 0, and then the remainder is null.
abbrev pub leaves2 : Op2 → CoreTree → CoreTree → CoreTree
leaves2 Add a b = null_alone (Two Add a b) (Two Eq a b)
leaves2 Sub a b = null_alone (Two Sub a b) (Two Eq a b)
leaves2 Mul a b = null_alone (Two Mul a b) (Two Eq a b)
leaves2 Div a b = null_alone (Two Div a b) (Two Rem a b)
leaves2 op a b = never

-- the same of a reducer: a sum is null for another reason only if the window has no number, and then the count is null
abbrev pub leaves_window : Reducer → ℕ → ℤ → ℤ → CoreTree
leaves_window Sum source from to = null_alone (Leaf (Reduce Sum source from to)) (Leaf (Reduce Count source from to))
leaves_window reducer source from to = never

-- 1 if a node of the expression leaves 64 bits, else 0. Both branches of a choice count, whichever is chosen
abbrev pub leaves : CoreTree → CoreTree
leaves (Leaf (Const number)) = never
leaves (Leaf (Read source offset)) = never
leaves (Leaf (Reduce reducer source from to)) = leaves_window reducer source from to
leaves (One op a) = one_of (leaves a) (leaves1 op a)
leaves (Two op a b) = one_of (one_of (leaves a) (leaves b)) (leaves2 op a b)
leaves (If c a b) = one_of (leaves c) (one_of (leaves a) (leaves b))
