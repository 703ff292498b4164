use Rattle.std.proofs.Common.{◌≡◌, drop, map}
use Rattle.tilt_syntax.specs.Tree.{statement_tree}
use Rattle.tilt_unit_text.specs.Places.{query_fault}
use Rattle.tilt_unit_text.proofs.places.query_fault.Given as goal

abbrev pub invariant-loop-statement : goal.invariant-loop-statement
invariant-loop-statement l =
    query_fault l.numbers (map statement_tree (drop l.statement-index l.statements)) ≡ query_fault l.numbers (map statement_tree l.statements)
