use Rattle.tilt_feed.proofs.AllAtRest.{fed-resting_order, fed-rests}
use Rattle.tilt_feed.proofs.law.resting_rows_go_on.Goals as goal

pub returns-clause-order : goal.returns-clause-order
returns-clause-order c = fed-resting_order

pub returns-clause-rests : goal.returns-clause-rests
returns-clause-rests c = fed-rests
