use Rattle.std.proofs.Common.{◌≡◌, drop}
use Rattle.tilt_unit_report.specs.Bound.{has_name}
use Rattle.tilt_unit_report.proofs.bound.has_name.Given as goal

abbrev pub invariant-loop-at : goal.invariant-loop-at
invariant-loop-at l = has_name (drop l.at l.inputs) l.name ≡ has_name l.fn.inputs l.fn.name
