use Rattle.std.proofs.Common.{◌≡◌, take}
use Rattle.tilt_core.specs.Needs.{widest}
use Rattle.tilt_bounds.proofs.widest.widest_need.Given as goal

abbrev pub invariant-loop-need : goal.invariant-loop-need
invariant-loop-need l = l.widest ≡ widest (take l.need-index l.needs)
