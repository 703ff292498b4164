use Rattle.tilt_live.specs.Lives.{IsLive}
use Rattle.tilt_tests_live.proofs.feeds.run_one.Given as goal

abbrev pub invariant-loop-step : goal.invariant-loop-step
invariant-loop-step g l = IsLive l.live
