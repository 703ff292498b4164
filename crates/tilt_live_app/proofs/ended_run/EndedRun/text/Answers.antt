use Rattle.std.proofs.Common.{◌++◌, ◌∙◌, subst}
use Rattle.tilt_live_state.specs.Spelling as live
use Rattle.tilt_live_state.specs.Valid.{IsStateOf}
use Rattle.tilt_run_state.specs.Spelling.{kept_lines}
use Rattle.tilt_run_state.specs.State.{RunStateParts}
use Rattle.tilt_run_state.specs.Valid.{FitsForm}
use Rattle.tilt_live_app.proofs.ended_run.EndedRun.text.Goals as goal

pub returns : goal.returns
returns c = λ accepted options bytes at opens.
    let ensures = c.in_ok-state.ensures in
    let is = ensures.is accepted options bytes at.is at.placed in (
      c.in_ok-put_state.ensures ∙ (λ k. opens k ++ (kept_lines (is k).kept ++ live.spelled (is k).state)),
      subst (λ (s : RunStateParts). IsStateOf accepted.core s.state) is (ensures.valid accepted options bytes at.is),
      subst (FitsForm options.form) is (ensures.fits accepted options bytes at.is),
    )
