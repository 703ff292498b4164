use Rattle.std.proofs.Common.{◌<◌, ◌^◌, length, arith}
use Rattle.tilt_engine.proofs.Inlets.{inlet-order, rows-few}
use Rattle.tilt_engine.specs.contracts.inlet.Inlet.{the_view}
use Rattle.tilt_engine.proofs.inlet.InletBuffer.made.Goals as goal

pub overflow_add-result : goal.overflow_add-result
overflow_add-result c =
    let few : length c.self.inside.rows < 2 ^ 63 = rows-few (the_view c.self.inside) c.self.invariant in
    omega arith

pub returns-in-Some-clause-in_order : goal.returns-in-Some-clause-in_order
returns-in-Some-clause-in_order c = rw (← c.self.view_is) (inlet-order (the_view c.self.inside) c.self.invariant)

pub returns-in-None-clause-in_order : goal.returns-in-None-clause-in_order
returns-in-None-clause-in_order c = rw (← c.self.view_is) (inlet-order (the_view c.self.inside) c.self.invariant)
