use Rattle.std.proofs.Common.{◌≡◌, suc, drop, map}
use Rattle.tilt_syntax.specs.Tree.{statement_tree}
use Rattle.tilt_unit_text.specs.Units.{statement_of}
use Rattle.tilt_unit_text.proofs.statement.statement_of.Given as goal

abbrev pub invariant-loop-statement : goal.invariant-loop-statement
invariant-loop-statement l = record {
  count : l.number ≡ suc l.statement-index;
  whole : statement_of l.number (map statement_tree (drop l.statement-index l.statements)) l.before
      ≡ statement_of 1 (map statement_tree l.statements) l.definition;
}
