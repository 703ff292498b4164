-- The measure is the depth of the tree, with a rank for each function.
use Rattle.std.proofs.Common.{◌+◌, ◌*◌, max}
use Rattle.tilt_syntax.specs.declared.expr.Expr.{size-Expr}
use Rattle.tilt_syntax.proofs.printer.+expression.Given as goal

abbrev pub decreases-put_expr : goal.decreases-put_expr
decreases-put_expr l = 3 * size-Expr l.expr.now

abbrev pub decreases-put_operand : goal.decreases-put_operand
decreases-put_operand l = 3 * size-Expr l.expr.now + 1

abbrev pub decreases-put_two : goal.decreases-put_two
decreases-put_two l = 3 * max (size-Expr l.a.now) (size-Expr l.b.now) + 2
