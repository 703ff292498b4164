use Rattle.std.proofs.Common.{◌≡◌, take}
use Rattle.tilt_unit_report.specs.Bound.{values_for}
use Rattle.tilt_unit_report.proofs.bound.values_of.Given as goal

abbrev pub invariant-loop-at : goal.invariant-loop-at
invariant-loop-at l = l.values.items ≡ values_for l.bounds (take l.at l.names)
