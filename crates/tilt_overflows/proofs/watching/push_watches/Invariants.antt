use Rattle.std.proofs.Common.{◌≡◌, ◌++◌, map, take}
use Rattle.tilt_overflows.proofs.watching.push_watches.Given as goal
use Rattle.tilt_overflows.specs.Watching.{AreSmall, watch}

abbrev pub invariant-loop-def : goal.invariant-loop-def
invariant-loop-def l = (l.all.items ≡ l.fn.all.items ++ map watch (take l.def-index l.defs)) × AreSmall (map watch (take l.def-index l.defs))
