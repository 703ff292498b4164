use Rattle.std.proofs.Common.{arith, sym, subst}
use Rattle.std.proofs.lemmas.Int.{ints, to_z-of_z}
use Rattle.tilt_base.specs.Grid.{IsFloor}
use Rattle.tilt_base.proofs.GridPoints.{floor-IsFloor}
use Rattle.tilt_base.proofs.grid.Grid.floor.Goals as goal

pub returns-clause-value : goal.returns-clause-value
returns-clause-value c = rw (← c.self.view_is) (grind (arith, ints, to_z-of_z))

pub returns-clause-greatest : goal.returns-clause-greatest
returns-clause-greatest c =
    let grid = c.args.self.now in
    subst (IsFloor grid c.args.tick) (sym (returns-clause-value c)) (floor-IsFloor grid c.args.tick (rw (← c.self.view_is) c.self.invariant.period_low))

pub returns-then-self-eq1-clause-value : goal.returns-then-self-eq1-clause-value
returns-then-self-eq1-clause-value c = rw (← c.self.view_is) (grind (arith, ints, to_z-of_z))

pub returns-then-self-eq1-clause-greatest : goal.returns-then-self-eq1-clause-greatest
returns-then-self-eq1-clause-greatest c =
    let grid = c.args.self.now in
    subst (IsFloor grid c.args.tick) (sym (returns-then-self-eq1-clause-value c)) (floor-IsFloor grid c.args.tick (rw (← c.self.view_is) c.self.invariant.period_low))
