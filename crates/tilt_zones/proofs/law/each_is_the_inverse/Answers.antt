use Rattle.tilt_zones.proofs.OutcomeLemmas.{one_meaning}
use Rattle.tilt_zones.proofs.ShownLemmas.{has_fold}
use Rattle.tilt_zones.proofs.law.each_is_the_inverse.Goals as goal

pub returns-clause-one : goal.returns-clause-one
returns-clause-one c zone local m n fold = one_meaning zone local m n fold

pub returns-clause-forth : goal.returns-clause-forth
returns-clause-forth c zone moment order = has_fold zone.first zone.transitions zone.end moment order
