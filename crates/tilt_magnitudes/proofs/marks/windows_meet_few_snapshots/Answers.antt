use Rattle.tilt_magnitudes.proofs.Counts.{count_in_ticks}
use Rattle.tilt_magnitudes.proofs.Marked.{definition_marks, definitions_marks, few_snapshots, rows_marks}
use Rattle.tilt_magnitudes.proofs.marks.windows_meet_few_snapshots.Goals as goal

pub returns : goal.returns
returns c = record {
  stretches = count_in_ticks;
  definition = definition_marks;
  query = definitions_marks;
  rows = rows_marks;
  window = few_snapshots;
}
