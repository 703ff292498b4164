-- The levels of expressions by name, and the operator that each token is between operands.
use Rattle.std.specs.Prelude.{ℕ, Option, Some, None}
use Rattle.tilt_base.specs.declared.operator.Op2.{Op2}
use Rattle.tilt_base.specs.declared.operator.Op2.TheVariants as op2
use Rattle.tilt_lexer.specs.declared.key.Key.TheVariants as key
use Rattle.tilt_lexer.specs.declared.mark.Mark.TheVariants as mark
use Rattle.tilt_lexer.specs.declared.token.Tok.{Tok}
use Rattle.tilt_lexer.specs.declared.token.Tok.TheVariants.{Key as Reserved, Mark as Sign}
use Rattle.tilt_syntax.specs.declared.level.Level.{Level}
use Rattle.tilt_syntax.specs.declared.level.Level.TheVariants.{Choice, When, Or, And, Negation, Comparison, Sum, Product, Minus, Atom}

-- the number of a level in the grammar
abbrev pub level_number : Level → ℕ
level_number Choice = 0
level_number When = 1
level_number Or = 2
level_number And = 3
level_number Negation = 4
level_number Comparison = 5
level_number Sum = 6
level_number Product = 7
level_number Minus = 8
level_number Atom = 9

-- the next tighter level
abbrev pub tighter : Level → Level
tighter Choice = When
tighter When = Or
tighter Or = And
tighter And = Negation
tighter Negation = Comparison
tighter Comparison = Sum
tighter Sum = Product
tighter Product = Minus
tighter Minus = Atom
tighter Atom = Atom

-- the operator that is written with the token between its operands, and its level
abbrev pub operator_of : Tok → Option (Level × Op2)
operator_of (Reserved key.When) = Some (When, op2.When)
operator_of (Reserved key.Or) = Some (Or, op2.Or)
operator_of (Reserved key.And) = Some (And, op2.And)
operator_of (Sign mark.Equal) = Some (Comparison, op2.Eq)
operator_of (Sign mark.NotEqual) = Some (Comparison, op2.Ne)
operator_of (Sign mark.Less) = Some (Comparison, op2.Lt)
operator_of (Sign mark.AtMost) = Some (Comparison, op2.Le)
operator_of (Sign mark.Greater) = Some (Comparison, op2.Gt)
operator_of (Sign mark.AtLeast) = Some (Comparison, op2.Ge)
operator_of (Sign mark.Plus) = Some (Sum, op2.Add)
operator_of (Sign mark.Minus) = Some (Sum, op2.Sub)
operator_of (Sign mark.Star) = Some (Product, op2.Mul)
operator_of (Sign mark.Slash) = Some (Product, op2.Div)
operator_of (Sign mark.Percent) = Some (Product, op2.Rem)
operator_of t = None
