use Rattle.tilt_run_state.proofs.Parts.{begins-not}
use Rattle.tilt_run_state.proofs.reading.read_state.Goals as goal

pub returns-then-branch-clause-only : goal.returns-then-branch-clause-only
returns-then-branch-clause-only c =
    λ s is range e same.
    absurd (begins-not c.args.form.now c.args.text.now s is.kept e (c.in_ok-begins_otherwise.ensures.0 c.if-branch.true))
