use Rattle.std.proofs.Common.{◌≡◌, drop}
use Rattle.tilt_unit_report.specs.Bound.{values_named}
use Rattle.tilt_unit_report.proofs.bound.values_named.Given as goal

abbrev pub invariant-loop-at : goal.invariant-loop-at
invariant-loop-at l = values_named (drop l.at l.bounds) l.name ≡ values_named l.fn.bounds l.fn.name
