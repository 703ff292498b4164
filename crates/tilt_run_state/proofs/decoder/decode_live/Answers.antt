use Rattle.std.proofs.Common.{Some, ap, ◌∙◌}
use Rattle.tilt_live_state.specs.State.{LiveStateParts}
use Rattle.tilt_run_state.specs.State.{RunStateParts}
use Rattle.tilt_run_state.proofs.decoder.decode_live.Goals as goal

pub returns-clause-only : goal.returns-clause-only
returns-clause-only c =
    λ s is keeps range e.
    let whole = λ (t : LiveStateParts). let made : RunStateParts = record { state = t; kept = Some c.args.kept } in made in
    c.of_readings.ensures ∙ ap whole (c.in-Ok.ensures.only s is range e)
