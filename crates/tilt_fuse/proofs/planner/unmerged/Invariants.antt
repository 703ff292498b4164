use Rattle.std.proofs.Common.{◌≡◌, replicate, None}
use Rattle.tilt_fuse.proofs.planner.unmerged.Given as goal

abbrev pub invariant-loop : goal.invariant-loop
invariant-loop l = l.merged.items ≡ replicate l.counter None
