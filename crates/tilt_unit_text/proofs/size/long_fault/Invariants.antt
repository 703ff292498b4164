use Rattle.std.proofs.Common.{◌≡◌, suc, drop, map}
use Rattle.tilt_syntax.specs.Tree.{statement_tree}
use Rattle.tilt_unit_text.specs.Size.{long_fault}
use Rattle.tilt_unit_text.proofs.size.long_fault.Given as goal

abbrev pub invariant-loop-statement : goal.invariant-loop-statement
invariant-loop-statement l = record {
  count : l.number ≡ suc l.statement-index;
  whole : long_fault l.number (map statement_tree (drop l.statement-index l.statements)) ≡ long_fault 1 (map statement_tree l.statements);
}
