-- Expressions in units, as plain data: without where their parts lie in memory.
use Rattle.std.specs.Prelude.{ℕ, ℤ, Bool, Option, Some, None}
use Rattle.tilt_base.specs.Expression.{Expression, Leaf, One, Two, If}
use Rattle.tilt_base.specs.declared.reducer.Reducer.{Reducer}
use Rattle.tilt_units.specs.declared.decimal.Decimal.{Decimal}
use Rattle.tilt_units.specs.declared.tree.DecimalTree.{DecimalTree}
use Rattle.tilt_units.specs.declared.tree.DecimalTree.TheVariants as tree

-- an expression that has no parts, over numbered sources: a literal, a truth value, a reading, or a reducer on a window
pub data UnitLeaf : Type 0 where
  Literal : (decimal : Decimal) → UnitLeaf
  Truth : (holds : Bool) → UnitLeaf
  Read : (source : ℕ) (offset : ℤ) → UnitLeaf
  Reduce : (reducer : Reducer) (source : ℕ) (from to : ℤ) → UnitLeaf

-- an expression
abbrev pub UnitTree : Type 0
UnitTree = Expression UnitLeaf

-- the tree of an expression in memory
abbrev pub unit_tree : DecimalTree → UnitTree
unit_tree (tree.Literal decimal) = Leaf (Literal decimal)
unit_tree (tree.Truth holds) = Leaf (Truth holds)
unit_tree (tree.Read source offset) = Leaf (Read source offset)
unit_tree (tree.Reduce reducer source from to) = Leaf (Reduce reducer source from to)
unit_tree (tree.One' op p a) = One op (unit_tree a)
unit_tree (tree.Two' op p a q b) = Two op (unit_tree a) (unit_tree b)
unit_tree (tree.If' p c q a r b) = If (unit_tree c) (unit_tree a) (unit_tree b)

-- the literal that an expression is, if it is one
abbrev pub literal_of : UnitTree → Option Decimal
literal_of (Leaf (Literal decimal)) = Some decimal
literal_of (Leaf (Truth holds)) = None
literal_of (Leaf (Read source offset)) = None
literal_of (Leaf (Reduce reducer source from to)) = None
literal_of (One op a) = None
literal_of (Two op a b) = None
literal_of (If c a b) = None
