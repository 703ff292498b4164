-- The lines so far are those of the rows so far.
use Rattle.std.proofs.Common.{◌≡◌, ◌++◌, take}
use Rattle.tilt_checkpoint.specs.Spelling.{row_lines}
use Rattle.tilt_live_state.proofs.encoder.put_rows.Given as goal

abbrev pub invariant-loop-row : goal.invariant-loop-row
invariant-loop-row l = l.text.items ≡ l.fn.text.items ++ row_lines (take l.row-index l.rows)
