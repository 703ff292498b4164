-- What is left gives what all rows give.
use Rattle.std.proofs.Common.{◌≡◌, ◌-◌, []}
use Rattle.tilt_checkpoint.specs.Reading.{times, with_row}
use Rattle.tilt_checkpoint.proofs.series.read_rows.Given as goal

abbrev pub invariant-loop : goal.invariant-loop
invariant-loop l =
    times (with_row l.first l.cut) (l.count - l.counter) (l.rows, l.reader) ≡ times (with_row l.first l.cut) l.count ([], l.fn.reader)
