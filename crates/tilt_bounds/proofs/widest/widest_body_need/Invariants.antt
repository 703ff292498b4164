use Rattle.std.proofs.Common.{◌≡◌, take}
use Rattle.tilt_core.specs.Needs.{body_needs, widest}
use Rattle.tilt_bounds.proofs.widest.widest_body_need.Given as goal

abbrev pub invariant-loop-place : goal.invariant-loop-place
invariant-loop-place l = l.widest ≡ widest (body_needs (take l.place l.defs) (take l.place l.needs))
