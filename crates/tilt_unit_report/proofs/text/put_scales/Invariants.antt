-- The lines so far, and those of the inputs that are left, are all of them.
use Rattle.std.proofs.Common.{◌≡◌, ◌++◌, drop}
use Rattle.tilt_unit_report.specs.Report.{lines_of, scale_line}
use Rattle.tilt_unit_report.proofs.text.put_scales.Given as goal

abbrev pub invariant-loop-at : goal.invariant-loop-at
invariant-loop-at l =
    l.text.items ++ lines_of (scale_line l.scales) (drop l.at l.names) ≡ l.fn.text.items ++ lines_of (scale_line l.scales) l.names
