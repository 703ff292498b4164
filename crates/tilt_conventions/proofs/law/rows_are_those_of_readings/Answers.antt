use Rattle.tilt_conventions.proofs.Converting.{allowed-fed, cut-fed, end-fed, now-fed, order-fed}
use Rattle.tilt_conventions.proofs.law.rows_are_those_of_readings.Goals as goal

pub returns-clause-allowed : goal.returns-clause-allowed
returns-clause-allowed c = allowed-fed

pub returns-clause-rows : goal.returns-clause-rows
returns-clause-rows c = now-fed

pub returns-clause-cut : goal.returns-clause-cut
returns-clause-cut c = cut-fed

pub returns-clause-order : goal.returns-clause-order
returns-clause-order c = order-fed

pub returns-clause-end : goal.returns-clause-end
returns-clause-end c = end-fed
