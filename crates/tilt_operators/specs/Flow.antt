-- A pipeline of operators, as plain data: without where its parts lie in memory.
use Rattle.std.specs.Prelude.{ℕ, ℤ, List}
use Rattle.tilt_base.specs.declared.reducer.Reducer.{Reducer}
use Rattle.tilt_base.specs.declared.span.Span.{Span}
use Rattle.tilt_syntax.specs.Tree.{ExprTree, expr_tree}
use Rattle.tilt_operators.specs.declared.step.Step.{Step}
use Rattle.tilt_operators.specs.declared.step.Step.TheVariants as step

-- a step between the first and the last
pub data StepTree : Type 0 where
  Select : (expr : ExprTree) → StepTree
  Keep : (expr : ExprTree) → StepTree
  Shift : (by : ℤ) → StepTree
  Window : (reducer : Reducer) (width : ℤ) → StepTree
  Join : (name : List ℕ) (expr : ExprTree) → StepTree

-- a pipeline: the input that it reads first, the steps, and the ticks on which it gives its list
pub record FlowTree : Type 0 where
  pub first : List ℕ
  pub steps : List StepTree
  pub domain : Span

-- the tree of a step in memory
abbrev pub step_tree : Step → StepTree
step_tree (step.Select e) = Select (expr_tree e)
step_tree (step.Keep e) = Keep (expr_tree e)
step_tree (step.Shift by) = Shift by
step_tree (step.Window reducer width) = Window reducer width
step_tree (step.Join name e) = Join name (expr_tree e)
