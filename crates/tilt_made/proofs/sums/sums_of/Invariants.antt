use Rattle.std.proofs.Common.{take}
use Rattle.tilt_window.specs.States.{IsSumAndCount}
use Rattle.tilt_made.specs.Summary.{values}
use Rattle.tilt_made.proofs.sums.sums_of.Given as goal

abbrev pub invariant-loop-snap : goal.invariant-loop-snap
invariant-loop-snap l = IsSumAndCount l.sums (values (take l.snap-index l.snap-items))
