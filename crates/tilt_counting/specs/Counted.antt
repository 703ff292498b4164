-- What a run makes of its feed if the rows of another run are counted (our own rule).
use Rattle.std.specs.Prelude.{ℕ, List, [], ◌++◌}
use Rattle.tilt_counting.specs.Count.{count_report, row_count}
use Rattle.tilt_serving.specs.Meaning.{FeedMeaning}

-- The same as alone. At the end of the feed it also reports how many rows the other run has, which began with this text
abbrev pub counted_meaning : FeedMeaning → FeedMeaning → List ℕ → FeedMeaning
counted_meaning run watch head = record {
  added = run.added;
  reported = run.reported;
  stop = run.stop;
  end_report = λ bytes. run.end_report bytes ++ count_report (row_count (head ++ watch.added [] bytes));
  end_stop = run.end_stop;
}
