use Rattle.tilt_edits.proofs.Outcomes.{outcome-one, outcome-first, outcome-some, outcome-either}
use Rattle.tilt_edits.proofs.law.edits_have_one_outcome.Goals as goal

pub returns-clause-one : goal.returns-clause-one
returns-clause-one c = outcome-one

pub returns-clause-first : goal.returns-clause-first
returns-clause-first c = outcome-first

pub returns-clause-some : goal.returns-clause-some
returns-clause-some c = outcome-some

pub returns-clause-either : goal.returns-clause-either
returns-clause-either c = outcome-either
