use Rattle.std.proofs.Common.{take}
use Rattle.tilt_store.specs.MemFolder.{after_all, at_first, kept_of}
use Rattle.tilt_store.proofs.tear.replay.Given as goal

abbrev pub invariant-loop-change : goal.invariant-loop-change
invariant-loop-change l = after_all (at_first l.first) (take l.change-index l.changes) (kept_of l.contents)
