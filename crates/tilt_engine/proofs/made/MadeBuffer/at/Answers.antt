use Rattle.tilt_engine.proofs.Mades.{list-order}
use Rattle.tilt_engine.specs.contracts.made.Made.{the_view}
use Rattle.tilt_engine.proofs.made.MadeBuffer.at.Goals as goal

pub returns-in-Some-clause-in_order : goal.returns-in-Some-clause-in_order
returns-in-Some-clause-in_order c = rw (← c.self.view_is) (list-order (the_view c.self.inside) c.self.invariant)

pub returns-in-None-clause-in_order : goal.returns-in-None-clause-in_order
returns-in-None-clause-in_order c = rw (← c.self.view_is) (list-order (the_view c.self.inside) c.self.invariant)
