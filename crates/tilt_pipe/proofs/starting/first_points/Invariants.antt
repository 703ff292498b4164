use Rattle.std.proofs.Common.{◌≡◌}
use Rattle.tilt_pipe.specs.Chain.{point_at}
use Rattle.tilt_pipe.specs.Gathered.{AreEach}
use Rattle.tilt_pipe.proofs.starting.first_points.Given as goal

abbrev pub invariant-loop-place : goal.invariant-loop-place
invariant-loop-place l = AreEach l.rings l.place (λ k w point. point ≡ point_at l.rings k w) l.points.items
