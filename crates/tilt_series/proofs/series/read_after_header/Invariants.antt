use Rattle.std.proofs.Common.{◌≡◌, length}
use Rattle.tilt_series.specs.Records.{IsBetween, records_left}
use Rattle.tilt_series.specs.Series.{bounds_after, rows_of}
use Rattle.tilt_series.specs.Stretch.{FitsBounds}
use Rattle.tilt_series.proofs.Loop.{whole_of}
use Rattle.tilt_series.proofs.series.read_after_header.Given as goal

abbrev pub invariant-loop-rows : goal.invariant-loop-rows
invariant-loop-rows l = record {
  between : IsBetween l.reader;
  fits : FitsBounds (bounds_after l.fn.bounds l.rows) l.free.low l.free.high;
  read : whole_of l.fn.bounds l.rows (records_left l.reader) ≡ rows_of l.fn.bounds 1 (records_left l.fn.reader);
}

abbrev pub decreases-loop-rows : goal.decreases-loop-rows
decreases-loop-rows l = length (records_left l.reader)
