use Rattle.std.proofs.Common.{◌≤◌, ◌+◌, List, ◌∷◌, ◌++◌, length, map, vec_len}
use Rattle.tilt_base.specs.declared.span.Span.{Span}
use Rattle.tilt_syntax.specs.Query.{AreSound, kinds, statements}
use Rattle.tilt_operators.specs.Flow.{StepTree, step_tree}
use Rattle.tilt_operators.specs.Parts.{IsOfBadStep}
use Rattle.tilt_operators.specs.Steps.{AreSteps}
use Rattle.tilt_operators.specs.declared.fault.FlowFault.{FlowFault}
use Rattle.tilt_operators.proofs.steps.read_later.Given as goal

-- what holds of the last step and the rest holds of all, with what was read before them
abbrev pub invariant-loop-rest : goal.invariant-loop-rest
invariant-loop-rest l = record {
  sound : AreSound (kinds l.last);
  sound_rest : AreSound (kinds l.rest);
  few : vec_len l.steps ≤ 99;
  good : (others : List StepTree) (domain : Span) → AreSteps (vec_len l.steps + 2) (kinds l.last ∷ statements (kinds l.rest)) others domain
      → AreSteps 2 (statements (kinds l.tokens)) (map step_tree l.steps.items ++ others) domain;
  faulty : (fault : FlowFault) → IsOfBadStep (vec_len l.steps + 2) (kinds l.last ∷ statements (kinds l.rest)) fault
      → IsOfBadStep 2 (statements (kinds l.tokens)) fault;
}

abbrev pub decreases-loop-rest : goal.decreases-loop-rest
decreases-loop-rest l = length l.rest
