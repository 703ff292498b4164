use Rattle.std.proofs.Common.{◌≡◌, suc, drop, map}
use Rattle.tilt_syntax.specs.Tree.{statement_tree}
use Rattle.tilt_unit_text.specs.Units.{statement_of}
use Rattle.tilt_unit_report.proofs.ill_scaled.statement_among.Given as goal

abbrev pub invariant-loop-at : goal.invariant-loop-at
invariant-loop-at l =
    statement_of (suc l.at) (map statement_tree (drop l.at l.statements)) l.before
    ≡ statement_of 1 (map statement_tree l.statements) l.definition
