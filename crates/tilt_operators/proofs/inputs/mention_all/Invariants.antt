use Rattle.std.proofs.Common.{◌≡◌, drop, map}
use Rattle.tilt_operators.specs.Flow.{step_tree}
use Rattle.tilt_operators.specs.Inputs.{with_steps}
use Rattle.tilt_operators.proofs.inputs.mention_all.Given as goal

abbrev pub invariant-loop-step : goal.invariant-loop-step
invariant-loop-step l =
    with_steps l.names.items (map step_tree (drop l.step-index l.steps)) ≡ with_steps l.initial.names.items (map step_tree l.steps)
