use Rattle.tilt_live.specs.Lives.{IsLive}
use Rattle.tilt_tests_live.proofs.resume.run_left.Given as goal

abbrev pub invariant-loop-number : goal.invariant-loop-number
invariant-loop-number g l = IsLive l.fed.live
