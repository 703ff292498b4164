-- How many tokens the shortest text of a statement has (our own rule): with parentheses only where they are needed.
use Rattle.std.specs.Prelude.{◌≡◌, ℕ, zero, suc, ◌+◌, ◌≤◌, ℤ, pos, negsuc, nat_lt, if◌then◌else◌, List, [], ◌∷◌, Option, Some, None}
use Rattle.std.specs.List.{AllByRecursion}
use Rattle.tilt_base.specs.Expression.{Leaf, One, Two, If}
use Rattle.tilt_base.specs.declared.operator.Op1.TheVariants as op1
use Rattle.tilt_base.specs.declared.span.Span.{Span}
use Rattle.tilt_syntax.specs.Grammar.{Infix, infix_of}
use Rattle.tilt_syntax.specs.Printing.{level_of}
use Rattle.tilt_syntax.specs.Tree.{ExprTree, StatementTree, Num, Truth, Read, Reduce, Input, Let, Emit}
use Rattle.tilt_syntax.specs.declared.every.Every.{Every}
use Rattle.tilt_unit_text.specs.declared.fault.UnitFault.{UnitFault}
use Rattle.tilt_unit_text.specs.declared.fault.UnitFault.TheVariants as fault
use Rattle.tilt_unit_text.specs.declared.size.Places.{Places}

-- what takes so many tokens, in parentheses if its level is lower than the one that its place asks for
abbrev pub size_in_place : ℕ → ℕ → ℕ → ℕ
size_in_place place level size = if nat_lt level place then size + 2 else size

-- `t`, `t+3` or `t-3`
abbrev pub offset_size : ℤ → ℕ
offset_size (pos zero) = 1
offset_size (pos (suc n)) = 3
offset_size (negsuc n) = 3

-- `x`, or `x[t-3]`
abbrev pub reading_size : ℤ → ℕ
reading_size (pos zero) = 1
reading_size (pos (suc n)) = 6
reading_size (negsuc n) = 6

-- two operands with an operator between them, or in a call, of which the levels and the sizes are given
abbrev pub operands_size : Option Infix → ℕ → ℕ → ℕ → ℕ → ℕ
operands_size None l a m b = 4 + a + b
operands_size (Some i) l a m b = 1 + size_in_place i.left l a + size_in_place i.right m b

abbrev pub expr_size : ExprTree → ℕ
expr_size (Leaf (Num n)) = 1
expr_size (Leaf (Truth holds)) = 1
expr_size (Leaf (Read name offset)) = reading_size offset
expr_size (Leaf (Reduce r name from to)) = 7 + offset_size from + offset_size to
expr_size (One op1.Neg a) = 1 + size_in_place 8 (level_of a) (expr_size a)
expr_size (One op1.Not a) = 1 + size_in_place 4 (level_of a) (expr_size a)
expr_size (One op1.IsNull a) = 3 + expr_size a
expr_size (Two op a b) = operands_size (infix_of op) (level_of a) (expr_size a) (level_of b) (expr_size b)
expr_size (If c a b) = 3 + expr_size c + expr_size a + expr_size b

abbrev pub bound_size : ℤ → ℕ
bound_size (pos n) = 1
bound_size (negsuc n) = 2

-- ` over (s, e]`
abbrev pub span_size : Span → ℕ
span_size span = 4 + bound_size span.start + bound_size span.end

abbrev pub domain_size : Option Span → ℕ
domain_size None = 0
domain_size (Some span) = span_size span

-- ` every p`, or ` every p from o`
abbrev pub period_size : ℤ → ℕ
period_size (pos zero) = 2
period_size (pos (suc n)) = 4
period_size (negsuc n) = 4

abbrev pub grid_size : Option Every → ℕ
grid_size None = 0
grid_size (Some every) = period_size every.offset

abbrev pub statement_size : StatementTree → ℕ
statement_size (Input name) = 3
statement_size (Let name e over every) = 4 + expr_size e + domain_size over + grid_size every
statement_size (Emit e over every) = 2 + expr_size e + span_size over + grid_size every

-- a statement takes at most 256 tokens, and all of a query's do
abbrev pub IsShort : StatementTree → Type 0
IsShort s = statement_size s ≤ 256

abbrev pub AreShort : List StatementTree → Type 0
AreShort query = AllByRecursion IsShort query

-- how an operator is written, in memory: a call asks for no level of its operands, and takes four tokens beside them
abbrev pub IsPlaces : Option Infix → Places → Type 0
IsPlaces None p = (p.level ≡ 9) × (p.left ≡ 0) × (p.right ≡ 0) × (p.signs ≡ 4)
IsPlaces (Some i) p = (p.level ≡ i.level) × (p.left ≡ i.left) × (p.right ≡ i.right) × (p.signs ≡ 1)

-- the fault of the first of more statements, from the number `n` on, that takes more than 256 tokens
abbrev pub long_fault : ℕ → List StatementTree → Option UnitFault
long_fault n [] = None
long_fault n (s ∷ query) = if nat_lt 256 (statement_size s) then Some (fault.WholeTooLong n) else long_fault (n + 1) query
