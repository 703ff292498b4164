use Rattle.std.proofs.Common.{◌∙◌, ap, Err}
use Rattle.std.proofs.lemmas.Result.{IfOk-weaker, err_from_is_err_and}
use Rattle.tilt_live_run.proofs.Adding.{adds-stopped}
use Rattle.tilt_live_app.proofs.begin.Begin.run.Goals as goal

pub returns-in_err-run-in-Some-clause-adds : goal.returns-in_err-run-in-Some-clause-adds
returns-in_err-run-in-Some-clause-adds g c = λ start at.
    let p = err_from_is_err_and c.from_residual.result c.from_residual.ensures.1 in
    adds-stopped _ _ start.head _ _ (p.1 ∙ ap Err p.2) (λ e. cc e) (λ e. absurd (cc e))

pub returns-in_ok-run-in-Some-clause-is : goal.returns-in_ok-run-in-Some-clause-is
returns-in_ok-run-in-Some-clause-is g c = λ start at.
    let from = rw c.in-Some.is at at in
    let ensures = c.in_ok-run-in-Some.ensures in
    rw from.4 (record { is = ensures.is from.0 from.1 from.2 from.3; placed = ensures.placed from.0 from.1 from.2 from.3 })

pub returns-in-None-clause-adds : goal.returns-in-None-clause-adds
returns-in-None-clause-adds g c = λ start at. let first = rw c.in-None.is at at in rw first c.start.ensures.adds

pub returns-in-None-clause-keeps : goal.returns-in-None-clause-keeps
returns-in-None-clause-keeps g c = λ keep. IfOk-weaker c.start.result _ _ (λ _ both. both.1 keep) c.start.ensures.keeps
