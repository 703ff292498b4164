use Rattle.std.proofs.Common.{◌∙◌}
use Rattle.tilt_run_state.proofs.Parts.{rows-only}
use Rattle.tilt_run_state.proofs.decoder.decode_state.Goals as goal

pub returns-in-Ok-clause-only : goal.returns-in-Ok-clause-only
returns-in-Ok-clause-only c =
    λ s is range e.
    c.of_rows.ensures
    ∙ rows-only c.args.form.now c.in-Rows.options c.args.text.now c.in-Ok.decoded.state c.in-Rows.is c.in-Ok.ensures.only s is range e
