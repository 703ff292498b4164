use Rattle.std.proofs.Common.{◌≡◌, ◌+◌, drop, map}
use Rattle.tilt_operators.specs.Flow.{step_tree}
use Rattle.tilt_operators.specs.Steps.{first_untyped}
use Rattle.tilt_operators.proofs.typed.first_untyped.Given as goal

abbrev pub invariant-loop-step : goal.invariant-loop-step
invariant-loop-step l = record {
  counted : l.number ≡ l.step-index + 1;
  so_far : first_untyped (l.number + 1) (map step_tree (drop l.step-index l.steps)) ≡ first_untyped 2 (map step_tree l.steps);
}
