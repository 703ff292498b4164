use Rattle.std.proofs.Common.{◌≡◌, take}
use Rattle.tilt_overflows.proofs.watching.copy_definitions.Given as goal

abbrev pub invariant-loop-def : goal.invariant-loop-def
invariant-loop-def l = l.all.items ≡ take l.def-index l.defs
