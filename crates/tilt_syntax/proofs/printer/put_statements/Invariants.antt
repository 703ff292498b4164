-- The lines so far are those of the statements so far.
use Rattle.std.proofs.Common.{◌≡◌, ◌++◌, map, take}
use Rattle.tilt_syntax.specs.Printing.{query_text}
use Rattle.tilt_syntax.specs.Tree.{statement_tree}
use Rattle.tilt_syntax.proofs.printer.put_statements.Given as goal

abbrev pub invariant-loop-statement : goal.invariant-loop-statement
invariant-loop-statement l = l.text.items ≡ l.fn.text.items ++ query_text (map statement_tree (take l.statement-index l.statements))
