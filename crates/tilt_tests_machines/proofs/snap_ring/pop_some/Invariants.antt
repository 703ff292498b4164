use Rattle.std.proofs.Common.{◌≡◌, ℤ}
use Rattle.std.specs.Option.{ForSome}
use Rattle.tilt_stream.specs.Snap.{last_end}
use Rattle.tilt_tests_machines.proofs.snap_ring.pop_some.Given as goal

abbrev pub invariant-loop : goal.invariant-loop
invariant-loop l = (limit : ℤ) → ForSome (last_end l.fn.ring) (λ end. end ≡ limit) → ForSome (last_end l.ring) (λ end. end ≡ limit)
