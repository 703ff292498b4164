use Rattle.std.proofs.Common.{arith}
use Rattle.tilt_engine.proofs.Mades.{list-order, pieces-few}
use Rattle.tilt_engine.specs.contracts.made.Made.{the_view}
use Rattle.tilt_engine.proofs.made.MadeBuffer.made.Goals as goal

pub overflow_add-result : goal.overflow_add-result
overflow_add-result c =
    let few = pieces-few (the_view c.self.inside) c.self.invariant in
    let count = rw (← c.self.view_is) at c.count-count.ensures in
    omega (arith, few, count)

pub returns-then-reached-self-clause-in_order : goal.returns-then-reached-self-clause-in_order
returns-then-reached-self-clause-in_order c = rw (← c.self.view_is) (list-order (the_view c.self.inside) c.self.invariant)

pub returns-else-reached-self-clause-in_order : goal.returns-else-reached-self-clause-in_order
returns-else-reached-self-clause-in_order c = rw (← c.self.view_is) (list-order (the_view c.self.inside) c.self.invariant)
