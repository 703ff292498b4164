use Rattle.std.proofs.Common.{arith}
use Rattle.tilt_engine.proofs.Mades.{settled-few}
use Rattle.tilt_engine.specs.contracts.made.Made.{the_view}
use Rattle.tilt_engine.proofs.made.Made.count.Goals as goal

pub overflow_add-result : goal.overflow_add-result
overflow_add-result c = omega (arith, settled-few (the_view c.self.inside) c.self.invariant, c.len.ensures)
