use Rattle.tilt_readings.proofs.ScaleLemmas.{times_exact, times_lost}
use Rattle.tilt_readings.proofs.law.decimals_are_exact.Goals as goal

pub returns-clause-exact : goal.returns-clause-exact
returns-clause-exact c = times_exact

pub returns-clause-lost : goal.returns-clause-lost
returns-clause-lost c = times_lost
