use Rattle.std.proofs.Common.{◌≡◌, take}
use Rattle.tilt_unit_report.specs.Bound.{rates_for}
use Rattle.tilt_unit_report.proofs.bound.rates_of.Given as goal

abbrev pub invariant-loop-at : goal.invariant-loop-at
invariant-loop-at l = l.rates.items ≡ rates_for l.bounds (take l.at l.names)
