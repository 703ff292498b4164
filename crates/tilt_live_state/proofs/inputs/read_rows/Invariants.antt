-- What is left is read as all rows are.
use Rattle.std.proofs.Common.{◌≡◌, ◌-◌, []}
use Rattle.tilt_checkpoint.specs.Reading.{times}
use Rattle.tilt_live_state.specs.Reading.{with_row}
use Rattle.tilt_live_state.proofs.inputs.read_rows.Given as goal

abbrev pub invariant-loop : goal.invariant-loop
invariant-loop l = times with_row (l.count - l.counter) (l.rows, l.reader) ≡ times with_row l.count ([], l.fn.reader)
