use Rattle.tilt_readings.proofs.TickLemmas.{end_within, one_tick, start_within}
use Rattle.tilt_readings.proofs.law.ticks_are_apart.Goals as goal

pub returns-clause-one : goal.returns-clause-one
returns-clause-one c = one_tick

pub returns-clause-start : goal.returns-clause-start
returns-clause-start c = start_within

pub returns-clause-end : goal.returns-clause-end
returns-clause-end c = end_within
