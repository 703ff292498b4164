use Rattle.tilt_app.proofs.Once.{outcome_once, outcome_some}
use Rattle.tilt_app.proofs.law.outcome_is_one.Goals as goal

pub returns-clause-some : goal.returns-clause-some
returns-clause-some c = outcome_some

pub returns-clause-one : goal.returns-clause-one
returns-clause-one c = outcome_once
