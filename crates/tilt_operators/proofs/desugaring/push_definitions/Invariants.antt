use Rattle.std.proofs.Common.{◌≡◌, ◌++◌, drop, map}
use Rattle.tilt_syntax.specs.Tree.{statement_tree}
use Rattle.tilt_operators.specs.Desugared.{source_name, step_definitions}
use Rattle.tilt_operators.specs.Flow.{step_tree}
use Rattle.tilt_operators.proofs.desugaring.push_definitions.Given as goal

abbrev pub invariant-loop-step : goal.invariant-loop-step
invariant-loop-step l = record {
  counted : l.number ≡ l.step-index;
  named : l.before ≡ source_name l.first l.step-index;
  so_far : map statement_tree l.statements.items ++ step_definitions l.first l.step-index (map step_tree (drop l.step-index l.steps))
      ≡ map statement_tree l.initial.statements.items ++ step_definitions l.first 0 (map step_tree l.steps);
}
