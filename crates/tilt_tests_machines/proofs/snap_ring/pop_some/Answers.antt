use Rattle.std.proofs.Common.{◌≡◌, ℤ, List, [], ◌∷◌, Option, Some, None, MatchOption}
use Rattle.std.specs.Option.{ForSome}
use Rattle.tilt_stream.specs.Snap.{Snapshot, last_end}
use Rattle.tilt_tests_machines.proofs.snap_ring.pop_some.Goals as goal

-- without its first one a list ends where it did, if it has others
popped-end : (taken : Option Snapshot) (old new : List Snapshot) (limit : ℤ)
    → MatchOption taken ((old ≡ []) × (new ≡ [])) (λ first. old ≡ first ∷ new)
    → ForSome (last_end old) (λ end. end ≡ limit) → ForSome (last_end new) (λ end. end ≡ limit)
popped-end None old new limit is ends = λ end found. absurd (cc (is.1, found))
popped-end (Some first) old [] limit is ends = λ end found. absurd (cc found)
popped-end (Some first) old (s ∷ ss) limit is ends = λ end found. ends end (rw is found)

pub loop-preserved : goal.loop-preserved
loop-preserved c = λ limit ends. popped-end c.pop_front.result c.loop.ring c.pop_front.new.self limit c.pop_front.ensures
    (c.loop.invariant limit ends)
