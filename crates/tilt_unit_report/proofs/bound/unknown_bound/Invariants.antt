use Rattle.std.proofs.Common.{◌≡◌, drop}
use Rattle.tilt_unit_report.specs.Bound.{unknown_bound}
use Rattle.tilt_unit_report.proofs.bound.unknown_bound.Given as goal

abbrev pub invariant-loop-at : goal.invariant-loop-at
invariant-loop-at l = unknown_bound l.inputs l.at (drop l.at l.bounds) ≡ unknown_bound l.fn.inputs 0 l.fn.bounds
