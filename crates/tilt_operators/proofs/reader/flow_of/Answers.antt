use Rattle.std.proofs.Common.{sym, arith}
use Rattle.std.proofs.lemmas.List.{length-map}
use Rattle.tilt_operators.specs.Flow.{step_tree}
use Rattle.tilt_operators.specs.Steps.{step_type}
use Rattle.tilt_operators.proofs.Later.{few-steps}
use Rattle.tilt_operators.proofs.reader.flow_of.Goals as goal

pub first_untyped-requires : goal.first_untyped-requires
first_untyped-requires c =
    let few = few-steps _ _ _ _ c.in_ok-first.ensures.read in
    let count = length-map c.in_ok-first.steps.items step_tree in
    rw c.deref.ensures.value (omega (arith, few, count))

pub returns-in-Some-clause-faulty : goal.returns-in-Some-clause-faulty
returns-in-Some-clause-faulty c = λ other.
    let found = rw (c.deref.ensures.value, c.in-Some.is) at c.in_ok-step.ensures in
    step_type _ c.in_ok-first.ensures.read (sym found)
