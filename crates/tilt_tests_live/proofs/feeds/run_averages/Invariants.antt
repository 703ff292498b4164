use Rattle.tilt_live.specs.Lives.{IsLive}
use Rattle.tilt_tests_live.proofs.feeds.run_averages.Given as goal

abbrev pub invariant-loop-row : goal.invariant-loop-row
invariant-loop-row g l = IsLive l.live
