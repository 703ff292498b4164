use Rattle.std.proofs.Common.{◌≡◌, ◌++◌, drop}
use Rattle.tilt_commands.specs.RowBounds.{up_to}
use Rattle.tilt_commands.proofs.row_bounds.bounds_up_to.Given as goal

abbrev pub invariant-loop-i : goal.invariant-loop-i
invariant-loop-i l = l.bounds.items ++ up_to (drop l.i l.series) (drop l.i l.cuts) ≡ up_to l.series l.cuts
