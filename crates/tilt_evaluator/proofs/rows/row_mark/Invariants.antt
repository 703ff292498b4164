use Rattle.std.proofs.Common.{◌≡◌, drop}
use Rattle.tilt_stream.specs.Stream.{mark_at}
use Rattle.tilt_evaluator.proofs.rows.row_mark.Given as goal

abbrev pub invariant-loop-row : goal.invariant-loop-row
invariant-loop-row l = mark_at (drop l.row-index l.rows) l.tick ≡ mark_at l.rows l.tick
