use Rattle.std.proofs.Common.{◌≡◌, ◌++◌, drop}
use Rattle.tilt_live_keys.proofs.copies.push_defs.Given as goal

abbrev pub invariant-loop-def : goal.invariant-loop-def
invariant-loop-def l = l.copies.items ++ drop l.def-index l.defs ≡ l.initial.copies.items ++ l.defs
