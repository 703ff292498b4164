use Rattle.std.proofs.Common.{arith}
use Rattle.tilt_syntax.specs.Grammar.{infix_of}
use Rattle.tilt_syntax.specs.Printing.{level_of}
use Rattle.tilt_syntax.specs.Tree.{expr_tree}
use Rattle.tilt_unit_text.proofs.Sizes.{after_both, operands_by}
use Rattle.tilt_unit_text.specs.Size.{expr_size, size_in_place}
use Rattle.tilt_unit_text.proofs.size.+size.Goals as goal

pub after_expr-returns-in_ok-rest-in-Two : goal.after_expr-returns-in_ok-rest-in-Two
after_expr-returns-in_ok-rest-in-Two t c =
    let p = c.places_of-places.result in
    let a = expr_tree c.in-Two.a.value in
    let b = expr_tree c.in-Two.b.value in
    let x = size_in_place p.left (level_of a) (expr_size a) in
    let y = size_in_place p.right (level_of b) (expr_size b) in
    let size = operands_by (infix_of c.in-Two.op) p (level_of a) (level_of b) (expr_size a) (expr_size b) c.places_of-places.ensures in
    let middle = c.in_ok-checked_sub-in-Two.field-0 in
    let taken = c.in_ok-checked_sub-in-Two.ensures in
    let rest = c.in_ok-rest-in-Two.rest in
    let first = rw c.deref-in-Two.ensures at c.in_ok-rest-in-Two.ensures in
    let second = rw c.deref-in-Two-2.ensures at c.after_operand-in-Two-2.ensures in
    rw c.in-Two.is
    (after_both c.after_operand-in-Two-2.result c.args.budget middle rest p.signs x y _ size (omega (arith, taken.0, taken.1)) first second)
