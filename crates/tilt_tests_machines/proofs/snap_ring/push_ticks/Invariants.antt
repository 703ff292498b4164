use Rattle.std.proofs.Common.{◌≡◌, pos}
use Rattle.std.specs.Option.{ForSome}
use Rattle.tilt_stream.specs.Snap.{last_end}
use Rattle.tilt_tests_machines.proofs.snap_ring.push_ticks.Given as goal

abbrev pub invariant-loop-start : goal.invariant-loop-start
invariant-loop-start l = ForSome (last_end l.ring) (λ end. end ≡ pos l.start)
