use Rattle.std.proofs.Common.{◌∙◌, ap}
use Rattle.tilt_core.specs.Needs.{Need, wider}
use Rattle.tilt_bounds.proofs.Needs.{widest_body-some, widest_body-none}
use Rattle.tilt_bounds.proofs.widest.widest_body_need.Goals as goal
use Rattle.tilt_bounds.proofs.widest.widest_body_need.Goals.{in-Some, in_default}

pub loop-place-preserved : goal.loop-place-preserved
loop-place-preserved c = elim c.match-needs-place.branch [
  | in-Some w ↦ w.widest-is ∙ w.wider-widest.ensures ∙ ap (λ (m : Need). wider c.loop-place.widest m) w.body_need.ensures
      ∙ widest_body-some c.args.defs.now c.args.needs.now c.loop-place.place c.index-defs-place.result c.loop-place-test.true c.requires.many c.index-defs-place.is
      w.in-Some.need _ c.loop-place.widest w.in-Some.is c.loop-place.invariant
  | in_default w ↦ w.widest-is
      ∙ widest_body-none c.args.defs.now c.args.needs.now c.loop-place.place c.index-defs-place.result c.loop-place-test.true c.requires.many c.index-defs-place.is
      _ c.loop-place.widest w.in_default.is c.loop-place.invariant
]
