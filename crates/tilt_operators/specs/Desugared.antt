-- The query of a pipeline: the same, by a definition for each step.
use Rattle.std.specs.Prelude.{ℕ, zero, suc, pos, neg_ℤ, ◌≤ℤ◌, List, [], ◌∷◌, ◌++◌, map, length, None}
use Rattle.std.specs.Prelude.{if◌then◌else◌, codes, ⊤}
use Rattle.std.specs.Fmt.{decimal}
use Rattle.std.specs.Str.{bytes_eq}
use Rattle.tilt_base.specs.Expression.{Leaf, One, Two, If}
use Rattle.tilt_base.specs.declared.operator.Op1.TheVariants as op1
use Rattle.tilt_base.specs.declared.operator.Op2.TheVariants as op2
use Rattle.tilt_syntax.specs.Tree.{ExprTree, Num, Truth, Read, Reduce, StatementTree, Input, Let, Emit}
use Rattle.tilt_operators.specs.Flow.{StepTree, Select, Keep, Shift, Window, Join, FlowTree}
use Rattle.tilt_operators.specs.Inputs.{inputs_of}

-- the name of the source after so many steps: before them that of the first input, and then `_1`, `_2` and so on
abbrev pub source_name : List ℕ → ℕ → List ℕ
source_name first zero = first
source_name first (suc n) = codes "_" ++ decimal (suc n)

-- a reading of a source as it is at the tick
abbrev pub reading : List ℕ → ExprTree
reading name = Leaf (Read name (pos 0))

-- a source isn't null
abbrev pub some_value : List ℕ → ExprTree
some_value name = One op1.Not (One op1.IsNull (reading name))

-- the source that the name of an operand stands for
abbrev pub source_for : List ℕ → List ℕ → List ℕ → List ℕ
source_for v w name = if bytes_eq name (codes "v") then v else w

-- an expression of a step over these sources, in place of `v` and `w`
abbrev pub over_sources : List ℕ → List ℕ → ExprTree → ExprTree
over_sources v w (Leaf (Num n)) = Leaf (Num n)
over_sources v w (Leaf (Truth b)) = Leaf (Truth b)
over_sources v w (Leaf (Read name offset)) = Leaf (Read (source_for v w name) offset)
over_sources v w (Leaf (Reduce r name from to)) = Leaf (Reduce r name from to)
over_sources v w (One op a) = One op (over_sources v w a)
over_sources v w (Two op a b) = Two op (over_sources v w a) (over_sources v w b)
over_sources v w (If c a b) = If (over_sources v w c) (over_sources v w a) (over_sources v w b)

-- a step over the source before it
abbrev pub step_expr : List ℕ → StepTree → ExprTree
step_expr before (Select e) = Two op2.When (over_sources before before e) (some_value before)
step_expr before (Keep e) = Two op2.When (reading before) (over_sources before before e)
step_expr before (Shift by) = Leaf (Read before (neg_ℤ by))
step_expr before (Window reducer width) = Leaf (Reduce reducer before (neg_ℤ width) (pos 0))
step_expr before (Join name e) = Two op2.When (over_sources before name e) (Two op2.And (some_value before) (some_value name))

-- the negative of a shift or of a width has 64 bits
abbrev pub IsNegatable : StepTree → Type 0
IsNegatable (Select e) = ⊤
IsNegatable (Keep e) = ⊤
IsNegatable (Shift by) = neg_ℤ (pos 9223372036854775807) ≤ℤ by
IsNegatable (Window reducer width) = pos 0 ≤ℤ width
IsNegatable (Join name e) = ⊤

-- a definition for each step, after so many
abbrev pub step_definitions : List ℕ → ℕ → List StepTree → List StatementTree
step_definitions first n [] = []
step_definitions first n (s ∷ steps) =
    Let (source_name first (suc n)) (step_expr (source_name first n) s) None None ∷ step_definitions first (suc n) steps

-- the query: its inputs, the definitions, and what the last source gives on the domain
abbrev pub query_of : FlowTree → List StatementTree
query_of flow =
    map Input (inputs_of flow)
    ++ (step_definitions flow.first 0 flow.steps
    ++ Emit (reading (source_name flow.first (length flow.steps))) flow.domain None ∷ [])
