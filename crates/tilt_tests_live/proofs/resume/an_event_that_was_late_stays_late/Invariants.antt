use Rattle.tilt_live.specs.Lives.{IsLive}
use Rattle.tilt_tests_live.proofs.resume.an_event_that_was_late_stays_late.Given as goal

abbrev pub invariant-loop-step : goal.invariant-loop-step
invariant-loop-step g l = IsLive l.fed.live
