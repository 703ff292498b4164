use Rattle.std.proofs.Common.{◌≡◌, ◌≤◌}
use Rattle.std.specs.Prelude.{drop}
use Rattle.tilt_exactly_once.specs.Recent.{lines_in}
use Rattle.tilt_outside.specs.Counts.{added_count, last_count}
use Rattle.tilt_exactly_once.proofs.keeper.count_lines.Given as goal

abbrev pub invariant-loop-byte : goal.invariant-loop-byte
invariant-loop-byte l = record {
  rest : added_count l.count (lines_in (drop l.byte-index l.fn.piece)) ≡ added_count 0 (lines_in l.fn.piece);
  low : l.count ≤ last_count;
}
