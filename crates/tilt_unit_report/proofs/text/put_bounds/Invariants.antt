-- The lines so far, and those of the sources that are left, are all of them.
use Rattle.std.proofs.Common.{◌≡◌, ◌+◌, ◌++◌, drop}
use Rattle.tilt_unit_report.specs.Report.{bound_lines}
use Rattle.tilt_unit_report.proofs.text.put_bounds.Given as goal

abbrev pub invariant-loop-at : goal.invariant-loop-at
invariant-loop-at l =
    l.text.items ++ bound_lines l.all (l.first + l.at) (drop l.at l.names) ≡ l.fn.text.items ++ bound_lines l.all l.first l.names
