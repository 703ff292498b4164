use Rattle.std.proofs.Common.{◌≡◌, drop}
use Rattle.tilt_unit_report.specs.Bound.{rate_named}
use Rattle.tilt_unit_report.proofs.bound.rate_named.Given as goal

abbrev pub invariant-loop-at : goal.invariant-loop-at
invariant-loop-at l = rate_named (drop l.at l.bounds) l.name ≡ rate_named l.fn.bounds l.fn.name
