use Rattle.std.proofs.Common.{◌≡◌, drop}
use Rattle.tilt_stream.specs.Stream.{cell_at}
use Rattle.tilt_evaluator.proofs.rows.row_cell.Given as goal

abbrev pub invariant-loop-row : goal.invariant-loop-row
invariant-loop-row l = cell_at (drop l.row-index l.rows) l.tick ≡ cell_at l.rows l.tick
