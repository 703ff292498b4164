-- The types of expressions (our own rule). A stream of numbers has the type int, a stream of truth values the type bool.
use Rattle.std.specs.Prelude.{ℕ, Bool, true, false, ◌&&◌, if◌then◌else◌, List, [], ◌∷◌, Option, Some, None, option_and_then}
use Rattle.std.specs.Str.{bytes_eq}
use Rattle.tilt_base.specs.Expression.{Leaf, One, Two, If}
use Rattle.tilt_base.specs.declared.operator.Op1.{Op1}
use Rattle.tilt_base.specs.declared.operator.Op1.TheVariants.{Neg, Not, IsNull}
use Rattle.tilt_base.specs.declared.operator.Op2.{Op2}
use Rattle.tilt_base.specs.declared.operator.Op2.TheVariants.{Add, Sub, Mul, Div, Rem, Eq, Ne, Lt, Le, Gt, Ge, And, Or, When, IfNull}
use Rattle.tilt_base.specs.declared.reducer.Reducer.{Reducer}
use Rattle.tilt_base.specs.declared.reducer.Reducer.TheVariants as reducer
use Rattle.tilt_syntax.specs.Tree.{Num, Truth, Read, Reduce, ExprTree}
use Rattle.tilt_types.specs.declared.declared.Declared.{Declared}
use Rattle.tilt_types.specs.declared.value_type.ValueType.{ValueType}
use Rattle.tilt_types.specs.declared.value_type.ValueType.TheVariants as value

-- whether two types are one
abbrev pub same_type : ValueType → ValueType → Bool
same_type value.Int value.Int = true
same_type value.Int value.Bool = false
same_type value.Bool value.Int = false
same_type value.Bool value.Bool = true

-- the type that is given where both operands have the type that is asked
abbrev pub of_asked : ValueType → ValueType → ValueType → ValueType → Option ValueType
of_asked asked given a b = if same_type a asked && same_type b asked then Some given else None

-- the type of an operator on one operand, by the operand's
abbrev pub type_of_one : Op1 → ValueType → Option ValueType
type_of_one Neg a = if same_type a value.Int then Some value.Int else None
type_of_one Not a = if same_type a value.Bool then Some value.Bool else None
type_of_one IsNull a = Some value.Bool

-- the type of an operator on two operands, by theirs
abbrev pub type_of_two : Op2 → ValueType → ValueType → Option ValueType
type_of_two Add a b = of_asked value.Int value.Int a b
type_of_two Sub a b = of_asked value.Int value.Int a b
type_of_two Mul a b = of_asked value.Int value.Int a b
type_of_two Div a b = of_asked value.Int value.Int a b
type_of_two Rem a b = of_asked value.Int value.Int a b
type_of_two Eq a b = if same_type a b then Some value.Bool else None
type_of_two Ne a b = if same_type a b then Some value.Bool else None
type_of_two Lt a b = of_asked value.Int value.Bool a b
type_of_two Le a b = of_asked value.Int value.Bool a b
type_of_two Gt a b = of_asked value.Int value.Bool a b
type_of_two Ge a b = of_asked value.Int value.Bool a b
type_of_two And a b = of_asked value.Bool value.Bool a b
type_of_two Or a b = of_asked value.Bool value.Bool a b
type_of_two When a c = if same_type c value.Bool then Some a else None
type_of_two IfNull a b = if same_type a b then Some a else None

-- the type of `if c then a else b`
abbrev pub type_of_if : ValueType → ValueType → ValueType → Option ValueType
type_of_if c a b = if same_type c value.Bool && same_type a b then Some a else None

-- the type of a reducer, by that of the stream under its window
abbrev pub type_of_reducer : Reducer → ValueType → Option ValueType
type_of_reducer reducer.Sum a = if same_type a value.Int then Some value.Int else None
type_of_reducer reducer.Avg a = if same_type a value.Int then Some value.Int else None
type_of_reducer reducer.Min a = if same_type a value.Int then Some value.Int else None
type_of_reducer reducer.Max a = if same_type a value.Int then Some value.Int else None
type_of_reducer reducer.Count a = Some value.Int
type_of_reducer reducer.First a = Some a
type_of_reducer reducer.Last a = Some a
type_of_reducer reducer.Any a = if same_type a value.Bool then Some value.Bool else None
type_of_reducer reducer.All a = if same_type a value.Bool then Some value.Bool else None

-- the type of a name, where it was declared
abbrev pub type_declared : List Declared → List ℕ → Option ValueType
type_declared [] name = None
type_declared (d ∷ ds) name = if bytes_eq d.name name then Some d.value_type else type_declared ds name

-- the type of an expression over the names that were declared, where it has one
abbrev pub type_of : List Declared → ExprTree → Option ValueType
type_of declared (Leaf (Num n)) = Some value.Int
type_of declared (Leaf (Truth b)) = Some value.Bool
type_of declared (Leaf (Read name offset)) = type_declared declared name
type_of declared (Leaf (Reduce r name from to)) = option_and_then (λ a. type_of_reducer r a) (type_declared declared name)
type_of declared (One op a) = option_and_then (λ x. type_of_one op x) (type_of declared a)
type_of declared (Two op a b) =
    option_and_then (λ x. option_and_then (λ y. type_of_two op x y) (type_of declared b)) (type_of declared a)
type_of declared (If c a b) =
    option_and_then (λ x. option_and_then (λ y. option_and_then (λ z. type_of_if x y z) (type_of declared b)) (type_of declared a))
    (type_of declared c)
