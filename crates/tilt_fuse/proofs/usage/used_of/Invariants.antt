use Rattle.std.proofs.Common.{◌+◌, ◌-◌, length, drop}
use Rattle.tilt_core.specs.Needs.{needs}
use Rattle.tilt_fuse.specs.Used.{AreUsed}
use Rattle.tilt_fuse.proofs.usage.used_of.Given as goal

-- what is done counts as given
abbrev pub invariant-loop-done : goal.invariant-loop-done
invariant-loop-done l = AreUsed l.used.items (needs (l.inputs + (length l.defs - l.done)) (drop (length l.defs - l.done) l.defs))
