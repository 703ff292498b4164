use Rattle.tilt_live_start.specs.Sessions.{IsLiveSession}
use Rattle.tilt_tests_live.proofs.started.run_one.Given as goal

abbrev pub invariant-loop-number : goal.invariant-loop-number
invariant-loop-number g l = IsLiveSession l.session
