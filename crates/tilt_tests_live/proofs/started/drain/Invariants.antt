use Rattle.tilt_live_start.specs.Sessions.{IsLiveSession}
use Rattle.tilt_tests_live.proofs.started.drain.Given as goal

abbrev pub invariant-loop : goal.invariant-loop
invariant-loop l = IsLiveSession l.session
