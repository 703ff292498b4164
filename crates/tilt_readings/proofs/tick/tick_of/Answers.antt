use Rattle.std.proofs.Common.{arith, inl, inr}
use Rattle.std.proofs.lemmas.Int.{ints, to_z-of_z}
use Rattle.std.specs.Int.{w128}
use Rattle.tilt_readings.proofs.TickLemmas.{not_found}
use Rattle.tilt_readings.proofs.tick.tick_of.Goals as goal
use Rattle.tilt_readings.proofs.tick.tick_of.Goals.{else-from-start-via-then-from-start+else-start-from, else-from-start-via-else-from-start}

pub returns-else-from-start : goal.returns-else-from-start
returns-else-from-start c =
    let here = rw (to_z-of_z w128 c.args.moment c.ranges.moment) at c.in_ok-start.ensures in
    not_found c.args.clock c.in_ok-start.start c.args.moment here
    (elim c.else-from-start.branch [
      | else-from-start-via-then-from-start+else-start-from w ↦ inr (omega (arith, ints, w.if-start-from.false, w.from-then-from-start.ensures))
      | else-from-start-via-else-from-start w ↦ inl (omega (arith, ints, w.if-from-start.false, c.from.ensures))
    ])
