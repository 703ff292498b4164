use Rattle.std.proofs.Common.{◌≡◌, ◌+◌, [], drop, map}
use Rattle.tilt_syntax.specs.Tree.{statement_tree}
use Rattle.tilt_types.specs.WellFormed.{first_fault}
use Rattle.tilt_types.proofs.checker.first_fault.Given as goal

abbrev pub invariant-loop-statement : goal.invariant-loop-statement
invariant-loop-statement l = record {
  counted : l.number ≡ l.statement-index;
  so_far : first_fault (l.number + 1) l.declared.items (map statement_tree (drop l.statement-index l.statements)) ≡ first_fault 1 [] (map statement_tree l.statements);
}
