use Rattle.tilt_live.specs.Lives.{IsLive}
use Rattle.tilt_tests_live.proofs.worked.drain.Given as goal

abbrev pub invariant-loop : goal.invariant-loop
invariant-loop l = IsLive l.live
