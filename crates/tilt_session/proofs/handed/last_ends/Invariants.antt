use Rattle.std.proofs.Common.{◌≡◌, map, take}
use Rattle.tilt_session.proofs.handed.last_ends.Given as goal

abbrev pub invariant-loop-kept : goal.invariant-loop-kept
invariant-loop-kept l = l.ends.items ≡ map (λ k. k.last_end) (take l.kept-index l.series)
