-- What is left gives what all series give.
use Rattle.std.proofs.Common.{◌≡◌, ◌-◌, []}
use Rattle.tilt_checkpoint.specs.Reading.{times, with_kept}
use Rattle.tilt_checkpoint.proofs.series.read_series.Given as goal

abbrev pub invariant-loop : goal.invariant-loop
invariant-loop l =
    times (with_kept l.form) (l.inputs - l.counter) (l.series.items, l.reader) ≡ times (with_kept l.form) l.inputs ([], l.fn.reader)
