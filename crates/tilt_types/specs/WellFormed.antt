-- Which queries are well formed, and the first fault of the others (our own rule): a statement is looked at after those before it.
use Rattle.std.specs.Prelude.{◌≡◌, ℕ, ◌+◌, pos, neg_ℤ, Bool, true, false, not, ◌&&◌, int_lt, int_le, if◌then◌else◌}
use Rattle.std.specs.Prelude.{List, [], ◌∷◌, ◌++◌, Option, Some, None, is_some}
use Rattle.std.specs.Option.{option_or}
use Rattle.tilt_base.specs.Expression.{Leaf, One, Two, If}
use Rattle.tilt_base.specs.Grid.{GridPoints, is_grid, is_point}
use Rattle.tilt_base.specs.declared.limits.TheConstants.{T}
use Rattle.tilt_syntax.specs.Tree.{Num, Truth, Read, Reduce, ExprTree, StatementTree, Input, Let, Emit}
use Rattle.tilt_base.specs.declared.span.Span.{Span}
use Rattle.tilt_syntax.specs.declared.every.Every.{Every}
use Rattle.tilt_types.specs.Types.{same_type, type_declared, type_of}
use Rattle.tilt_types.specs.declared.declared.Declared.{Declared}
use Rattle.tilt_types.specs.declared.fault.CheckFault.{CheckFault}
use Rattle.tilt_types.specs.declared.fault.CheckFault.TheVariants as fault
use Rattle.tilt_types.specs.declared.value_type.ValueType.{ValueType}
use Rattle.tilt_types.specs.declared.value_type.ValueType.TheVariants as value

-- whether a name was declared
abbrev pub is_declared : List Declared → List ℕ → Bool
is_declared declared name = is_some (type_declared declared name)

-- whether each name in an expression was declared
abbrev pub knows_names : List Declared → ExprTree → Bool
knows_names declared (Leaf (Num n)) = true
knows_names declared (Leaf (Truth b)) = true
knows_names declared (Leaf (Read name offset)) = is_declared declared name
knows_names declared (Leaf (Reduce r name from to)) = is_declared declared name
knows_names declared (One op a) = knows_names declared a
knows_names declared (Two op a b) = knows_names declared a && knows_names declared b
knows_names declared (If c a b) = knows_names declared c && knows_names declared a && knows_names declared b

-- whether each window in an expression ends after its start
abbrev pub has_windows : ExprTree → Bool
has_windows (Leaf (Num n)) = true
has_windows (Leaf (Truth b)) = true
has_windows (Leaf (Read name offset)) = true
has_windows (Leaf (Reduce r name from to)) = int_lt from to
has_windows (One op a) = has_windows a
has_windows (Two op a b) = has_windows a && has_windows b
has_windows (If c a b) = has_windows c && has_windows a && has_windows b

-- the grid that is written after `every`; where none is, each tick is a point
abbrev pub grid_of : Option Every → GridPoints
grid_of None = record { period = pos 1; offset = pos 0 }
grid_of (Some every) = record { period = every.period; offset = every.offset }

-- the grid of a statement; an input has a point at each tick
abbrev pub statement_grid : StatementTree → GridPoints
statement_grid (Input name) = grid_of None
statement_grid (Let name e over every) = grid_of every
statement_grid (Emit e over every) = grid_of every

-- whether a span, where one is written, bounds a stretch of time within `-T..T`
abbrev pub is_stretch : Option Span → Bool
is_stretch None = true
is_stretch (Some span) = int_le (neg_ℤ T) span.start && int_lt span.start span.end && int_le span.end T

-- whether the bounds of a span, where one is written, are points of a grid
abbrev pub has_bounds_on : Option Span → GridPoints → Bool
has_bounds_on None grid = true
has_bounds_on (Some span) grid = is_point grid span.start && is_point grid span.end

-- whether a span and a grid, where they are written, may stand together
abbrev pub is_domain : Option Span → Option Every → Bool
is_domain over every = is_grid (grid_of every) && is_stretch over && has_bounds_on over (grid_of every)

-- whether an expression of this type, if it has one, may be in a definition: an emitted one gives numbers
abbrev pub is_fitting : Bool → Option ValueType → Bool
is_fitting emitted None = false
is_fitting emitted (Some a) = if emitted then same_type a value.Int else true

-- the first fault of the expression of the statement with that number, after these declarations
abbrev pub expr_fault : ℕ → List Declared → Bool → ExprTree → Option CheckFault
expr_fault n declared emitted e =
    if not (knows_names declared e) then Some (fault.UnknownName n)
    else if not (is_fitting emitted (type_of declared e)) then Some (fault.TypeMismatch n)
    else if not (has_windows e) then Some (fault.BadWindow n)
    else None

-- the fault of its span and its grid
abbrev pub domain_fault : ℕ → Option Span → Option Every → Option CheckFault
domain_fault n over every = if not (is_domain over every) then Some (fault.BadDomain n) else None

-- the fault of the name that it declares
abbrev pub name_fault : ℕ → List Declared → List ℕ → Option CheckFault
name_fault n declared name = if is_declared declared name then Some (fault.NameTaken n) else None

-- the first fault of the statement
abbrev pub fault_of : ℕ → List Declared → StatementTree → Option CheckFault
fault_of n declared (Input name) = name_fault n declared name
fault_of n declared (Let name e over every) =
    option_or (option_or (name_fault n declared name) (expr_fault n declared false e)) (domain_fault n over every)
fault_of n declared (Emit e over every) = option_or (expr_fault n declared true e) (domain_fault n (Some over) every)

-- a name with its type, where it has one
abbrev pub declared_as : List ℕ → Option ValueType → List Declared
declared_as name None = []
declared_as name (Some a) = record { name = name; value_type = a } ∷ []

-- what a statement after these declarations declares; an input gives numbers
abbrev pub declared_by : List Declared → StatementTree → List Declared
declared_by declared (Input name) = declared_as name (Some value.Int)
declared_by declared (Let name e over every) = declared_as name (type_of declared e)
declared_by declared (Emit e over every) = []

-- the fault of the first faulty one of statements, of which the first has the number `n`; of several in one the first counts
abbrev pub first_fault : ℕ → List Declared → List StatementTree → Option CheckFault
first_fault n declared [] = None
first_fault n declared (s ∷ query) = option_or (fault_of n declared s) (first_fault (n + 1) (declared ++ declared_by declared s) query)

-- no statement has a fault
abbrev pub IsWellFormed : List StatementTree → Type 0
IsWellFormed query = first_fault 1 [] query ≡ None
