use Rattle.std.proofs.Common.{◌≡◌, take}
use Rattle.tilt_engine.specs.Forgetting.{each_later, later_made}
use Rattle.tilt_engine.proofs.forgetting.forget_made.Given as goal

abbrev pub invariant-loop-place : goal.invariant-loop-place
invariant-loop-place l = l.loops ≡ each_later later_made (take l.place l.counts) l.fn.loops
