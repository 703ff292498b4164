-- The tree of a query, as plain data: without where its parts lie in memory.
use Rattle.std.specs.Prelude.{ℕ, ℤ, Bool, List, Option}
use Rattle.tilt_base.specs.Expression.{Expression, Leaf, One, Two, If}
use Rattle.tilt_base.specs.declared.reducer.Reducer.{Reducer}
use Rattle.tilt_syntax.specs.declared.expr.Expr.{Expr}
use Rattle.tilt_syntax.specs.declared.expr.Expr.TheVariants as expr
use Rattle.tilt_base.specs.declared.span.Span.{Span}
use Rattle.tilt_syntax.specs.declared.every.Every.{Every}
use Rattle.tilt_syntax.specs.declared.statement.Statement.{Statement}
use Rattle.tilt_syntax.specs.declared.statement.Statement.TheVariants as statement

-- an expression that has no parts: a number, a truth value, a reading, or a reducer on a window
pub data Atom : Type 0 where
  Num : (n : ℤ) → Atom
  Truth : (b : Bool) → Atom
  Read : (name : List ℕ) (offset : ℤ) → Atom
  Reduce : (reducer : Reducer) (name : List ℕ) (from to : ℤ) → Atom

-- an expression
abbrev pub ExprTree : Type 0
ExprTree = Expression Atom

-- a statement
pub data StatementTree : Type 0 where
  Input : (name : List ℕ) → StatementTree
  Let : (name : List ℕ) (expr : ExprTree) (over : Option Span) (every : Option Every) → StatementTree
  Emit : (expr : ExprTree) (over : Span) (every : Option Every) → StatementTree

-- the tree of an expression in memory
abbrev pub expr_tree : Expr → ExprTree
expr_tree (expr.Num n) = Leaf (Num n)
expr_tree (expr.Truth b) = Leaf (Truth b)
expr_tree (expr.Read name offset) = Leaf (Read name offset)
expr_tree (expr.Reduce reducer name from to) = Leaf (Reduce reducer name from to)
expr_tree (expr.One' op p a) = One op (expr_tree a)
expr_tree (expr.Two' op p a q b) = Two op (expr_tree a) (expr_tree b)
expr_tree (expr.If' p c q a r b) = If (expr_tree c) (expr_tree a) (expr_tree b)

-- the tree of a statement in memory
abbrev pub statement_tree : Statement → StatementTree
statement_tree (statement.Input name) = Input name
statement_tree (statement.Let name e over every) = Let name (expr_tree e) over every
statement_tree (statement.Emit e over every) = Emit (expr_tree e) over every
