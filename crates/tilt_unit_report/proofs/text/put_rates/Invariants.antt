-- The lines so far, and those of the inputs that are left, are all of them.
use Rattle.std.proofs.Common.{◌≡◌, ◌++◌, drop}
use Rattle.tilt_unit_report.specs.Report.{lines_of, rate_line}
use Rattle.tilt_unit_report.proofs.text.put_rates.Given as goal

abbrev pub invariant-loop-at : goal.invariant-loop-at
invariant-loop-at l =
    l.text.items ++ lines_of (rate_line l.bounds) (drop l.at l.names) ≡ l.fn.text.items ++ lines_of (rate_line l.bounds) l.names
