use Rattle.tilt_app.proofs.SessionCalls.{one-run}
use Rattle.tilt_app.proofs.law.sessions_are_one_run.Goals as goal

pub returns : goal.returns
returns c = one-run
