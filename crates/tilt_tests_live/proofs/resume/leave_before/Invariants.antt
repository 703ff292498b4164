use Rattle.tilt_live.specs.Lives.{IsLive}
use Rattle.tilt_tests_live.proofs.resume.leave_before.Given as goal

abbrev pub invariant-loop : goal.invariant-loop
invariant-loop g l = IsLive l.fed.live
