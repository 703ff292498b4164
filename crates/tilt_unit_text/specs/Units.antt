-- The query over whole numbers that a text in units is, over the scales of its inputs (our own rule).
use Rattle.std.specs.Prelude.{◌≡◌, ⊤, ℕ, ℤ, zero, suc, ◌+◌, nat_lt, if◌then◌else◌, List, [], ◌∷◌, ◌++◌, length, map, Option, Some, None}
use Rattle.std.specs.Prelude.{Result, Ok, Err}
use Rattle.std.specs.List.{AllByRecursion}
use Rattle.std.specs.Option.{option_or}
use Rattle.tilt_base.specs.Expression.{Leaf, One, Two, If}
use Rattle.tilt_core.specs.Core.{CoreParts, ReadsBelow}
use Rattle.tilt_core.specs.CoreTree.{Definition, nodes}
use Rattle.tilt_input_scales.specs.Scales.{ScalesValue, scale_named}
use Rattle.tilt_syntax.specs.Tree.{Num, Truth, Read, Reduce, ExprTree, StatementTree, Input, Let, Emit}
use Rattle.tilt_syntax.specs.declared.fault.SyntaxFault.{SyntaxFault}
use Rattle.tilt_syntax.specs.declared.fault.SyntaxFault.TheVariants as syntax
use Rattle.tilt_types.specs.Checked.{checked, place_of}
use Rattle.tilt_types.specs.declared.fault.CheckFault.{CheckFault}
use Rattle.tilt_types.specs.declared.fault.CheckFault.TheVariants as check
use Rattle.tilt_units.specs.DecimalTree.{UnitTree, Literal, Truth as UnitTruth, Read as UnitRead, Reduce as UnitReduce}
use Rattle.tilt_units.specs.Translation.{ScaledQuery, UnitDefinition, translated}
use Rattle.tilt_units.specs.declared.decimal.Decimal.{Decimal}
use Rattle.tilt_units.specs.declared.fault.ScaleFault.{ScaleFault}
use Rattle.tilt_units.specs.declared.fault.ScaleFault.TheVariants as scale
use Rattle.tilt_units.specs.declared.quantity.Quantity.{Quantity}
use Rattle.tilt_unit_text.specs.Named.{whole_statements}
use Rattle.tilt_unit_text.specs.Numbers.{and_then, smallest, unless}
use Rattle.tilt_unit_text.specs.Places.{decimals_of, digits_at, number_at, query_fault}
use Rattle.tilt_unit_text.specs.Size.{long_fault}
use Rattle.tilt_unit_text.specs.declared.fault.UnitFault.{UnitFault}
use Rattle.tilt_unit_text.specs.declared.fault.UnitFault.TheVariants as fault
use Rattle.tilt_unit_text.specs.declared.unit_query.UnitQuery.{UnitQuery}
use Rattle.tilt_unit_text.specs.declared.written.Written.{Written}

-- a query over whole numbers, and what each of its sources represents
pub record UnitParts : Type 0 where
  pub query : List StatementTree
  pub core : CoreParts
  pub quantities : List Quantity

-- the same in memory
abbrev pub parts_of : UnitQuery → UnitParts
parts_of q = record { query = q.query; core = q.core; quantities = q.quantities.items }

-- the faults of the crates below, as faults of a text in units
abbrev pub of_syntax : SyntaxFault → UnitFault
of_syntax syntax.OutOfMemory = fault.OutOfMemory
of_syntax f = fault.Syntax f

abbrev pub of_check : CheckFault → UnitFault
of_check check.OutOfMemory = fault.OutOfMemory
of_check f = fault.IllFormed f

-- the number of the definition that a fault is in; 0 if it is in none
abbrev pub definition_with : ScaleFault → ℕ
definition_with (scale.UnknownSource place) = place.definition
definition_with (scale.TypeMismatch place) = place.definition
definition_with (scale.ScalesDiffer place) = place.definition
definition_with (scale.LiteralNotWhole place) = place.definition
definition_with (scale.LiteralTooLarge place) = place.definition
definition_with (scale.ScaleTooLarge place) = place.definition
definition_with (scale.BodyTooLarge place) = place.definition
definition_with scale.TooManySources = 0
definition_with scale.OutOfMemory = 0

-- the number of the statement that is the definition with a number, if the first statement has the number `n`
abbrev pub statement_of : ℕ → List StatementTree → ℕ → ℕ
statement_of n [] number = n
statement_of n (Input name ∷ query) number = statement_of (n + 1) query number
statement_of n (Let name e over every ∷ query) zero = n
statement_of n (Let name e over every ∷ query) (suc number) = statement_of (n + 1) query number
statement_of n (Emit e over every ∷ query) zero = n
statement_of n (Emit e over every ∷ query) (suc number) = statement_of (n + 1) query number

abbrev pub of_scale : List StatementTree → ScaleFault → UnitFault
of_scale query scale.OutOfMemory = fault.OutOfMemory
of_scale query f = fault.Scale (statement_of 1 query (definition_with f)) f

-- a result with its fault as a fault of a text in units
abbrev pub with_fault : {A E : Type 0} → (E → UnitFault) → Result A E → Result A UnitFault
with_fault of (Ok a) = Ok a
with_fault of (Err f) = Err (of f)

-- the literal with a count
abbrev pub literal_at : List Written → ℤ → Decimal
literal_at numbers place = smallest (digits_at numbers place) (decimals_of (number_at numbers place))

-- an expression in which each number is its count, in units
abbrev pub in_units : List (List ℕ) → List Written → ExprTree → UnitTree
in_units names numbers (Leaf (Num place)) = Leaf (Literal (literal_at numbers place))
in_units names numbers (Leaf (Truth holds)) = Leaf (UnitTruth holds)
in_units names numbers (Leaf (Read name offset)) = Leaf (UnitRead (place_of names name) (digits_at numbers offset))
in_units names numbers (Leaf (Reduce r name from to)) =
    Leaf (UnitReduce r (place_of names name) (digits_at numbers from) (digits_at numbers to))
in_units names numbers (One op a) = One op (in_units names numbers a)
in_units names numbers (Two op a b) = Two op (in_units names numbers a) (in_units names numbers b)
in_units names numbers (If c a b) = If (in_units names numbers c) (in_units names numbers a) (in_units names numbers b)

-- a definition with this expression, on the grid and the span of a definition of the core
abbrev pub unit_definition_of : List (List ℕ) → List Written → ExprTree → Definition → UnitDefinition
unit_definition_of names numbers e def = record { body = in_units names numbers e; over = def.over; grid = def.grid }

-- the definitions in units, of a query in which each number is its count, and of the definitions of its core
abbrev pub unit_definitions : List (List ℕ) → List Written → List StatementTree → List Definition → List UnitDefinition
unit_definitions names numbers [] defs = []
unit_definitions names numbers (Input name ∷ query) defs = unit_definitions names numbers query defs
unit_definitions names numbers (Let name e over every ∷ query) [] = []
unit_definitions names numbers (Let name e over every ∷ query) (def ∷ defs) =
    unit_definition_of names numbers e def ∷ unit_definitions names numbers query defs
unit_definitions names numbers (Emit e over every ∷ query) [] = []
unit_definitions names numbers (Emit e over every ∷ query) (def ∷ defs) =
    unit_definition_of names numbers e def ∷ unit_definitions names numbers query defs

-- the same of a query that starts with a definition of this expression
abbrev pub one_definition : List (List ℕ) → List Written → ExprTree → List StatementTree → List Definition → List UnitDefinition
one_definition names numbers e query [] = []
one_definition names numbers e query (def ∷ defs) =
    unit_definition_of names numbers e def ∷ unit_definitions names numbers query defs

-- the scales of inputs with these names
abbrev pub scales_for : ScalesValue → List (List ℕ) → List ℕ
scales_for scales names = map (scale_named scales) names

-- the scale of each input with one of these names is 1
abbrev pub HaveScaleOne : ScalesValue → List (List ℕ) → Type 0
HaveScaleOne scales names = AllByRecursion (λ name. scale_named scales name ≡ 1) names

-- the fault of the first of more definitions of a query, after so many, of which the expression over whole numbers has more than 256 nodes
abbrev pub large_fault : List StatementTree → ℕ → List Definition → Option UnitFault
large_fault query number [] = None
large_fault query number (def ∷ defs) =
    if nat_lt 256 (nodes def.body) then Some (fault.WholeTooLarge (statement_of 1 query number))
    else large_fault query (number + 1) defs

-- a query over whole numbers with the statements and the names of a query and its core
abbrev pub whole_parts : List StatementTree → CoreParts → ScaledQuery → UnitParts
whole_parts query core whole = record {
  query = whole_statements query whole.defs;
  core = record { inputs = core.inputs; names = core.names; defs = whole.defs };
  quantities = whole.quantities;
}

-- the same, unless an expression has too many nodes, or a statement takes too many tokens
abbrev pub whole_query : List StatementTree → CoreParts → ScaledQuery → Result UnitParts UnitFault
whole_query query core whole =
    unless (option_or (large_fault query 0 whole.defs) (long_fault 1 (whole_statements query whole.defs))) (whole_parts query core whole)

-- definitions over whole numbers have the spans and the grids of definitions, and each reads only sources before it, of which there are so many
abbrev pub HaveFrames : ℕ → List Definition → List Definition → Type 0
HaveFrames before [] [] = ⊤
HaveFrames before [] (d ∷ ds) = ⊥
HaveFrames before (def ∷ defs) [] = ⊥
HaveFrames before (def ∷ defs) (d ∷ ds) =
    (d.over ≡ def.over) × (d.grid ≡ def.grid) × ReadsBelow before d.body × HaveFrames (suc before) defs ds

-- the definitions of a query over whole numbers may take the place of those of a core
abbrev pub IsTranslation : CoreParts → ScaledQuery → Type 0
IsTranslation core query = HaveFrames (length core.inputs) core.defs query.defs

-- what a query with a core is over whole numbers, which with each number as its count is this
abbrev pub core_in_units : ScalesValue → List Written → (query places : List StatementTree) → CoreParts → Result UnitParts UnitFault
core_in_units scales numbers query places core =
    let units = unit_definitions (core.inputs ++ core.names) numbers places core.defs in
    and_then (with_fault (of_scale places) (translated (scales_for scales core.inputs) units)) (λ whole. whole_query query core whole)

-- what a query without a fault in its numbers of ticks is over whole numbers
abbrev pub checked_in_units : ScalesValue → List Written → List StatementTree → List StatementTree → Result UnitParts UnitFault
checked_in_units scales numbers query places =
    and_then (with_fault of_check (checked query)) (λ core. core_in_units scales numbers query places core)

-- what a query is over whole numbers
abbrev pub query_in_units : ScalesValue → List Written → List StatementTree → List StatementTree → Result UnitParts UnitFault
query_in_units scales numbers query places =
    and_then (unless (query_fault numbers places) tt) (λ (whole : Unit {0}). checked_in_units scales numbers query places)
