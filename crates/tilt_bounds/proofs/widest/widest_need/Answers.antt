use Rattle.std.proofs.Common.{◌∙◌}
use Rattle.tilt_bounds.proofs.Needs.{widest-some, widest-none}
use Rattle.tilt_bounds.proofs.widest.widest_need.Goals as goal
use Rattle.tilt_bounds.proofs.widest.widest_need.Goals.{in-Some, in_default}

pub loop-need-preserved : goal.loop-need-preserved
loop-need-preserved c = elim c.match-need.branch [
  | in-Some w ↦ w.widest-is ∙ w.wider-widest.ensures ∙ widest-some c.args.needs.now c.loop-need.need-index w.in-Some.need
      c.loop-need.widest c.loop-need-test.true (rw w.in-Some.is at c.need-item.is) c.loop-need.invariant
  | in_default w ↦ w.widest-is ∙ widest-none c.args.needs.now c.loop-need.need-index c.loop-need.widest c.loop-need-test.true (rw w.in_default.is at c.need-item.is) c.loop-need.invariant
]
