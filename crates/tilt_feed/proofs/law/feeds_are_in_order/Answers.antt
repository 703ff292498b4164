use Rattle.tilt_feed.proofs.Ordered.{after-unchanged, fed-order}
use Rattle.tilt_feed.proofs.law.feeds_are_in_order.Goals as goal

pub returns-clause-order : goal.returns-clause-order
returns-clause-order c = fed-order

pub returns-clause-unchanged : goal.returns-clause-unchanged
returns-clause-unchanged c = after-unchanged
