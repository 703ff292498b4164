use Rattle.std.proofs.Common.{ℕ}
use Rattle.tilt_port.specs.Transcript.{Transcript}
use Rattle.tilt_serving.specs.Meaning.{GoesByBytes}
use Rattle.tilt_serving.specs.Served.{Start}
use Rattle.tilt_serving.specs.Serving.{GoesOn}
use Rattle.tilt_serving.proofs.feed.serve_all.Given as goal

abbrev pub invariant-loop : goal.invariant-loop
invariant-loop g l = record {
  takes : (n : ℕ) → g.E.Sink.takes l.err n;
  sound : g.R.FeedRun.sound l.run;
  keeps : g.R.FeedRun.keeps l.fn.run → g.R.FeedRun.keeps l.run;
  of : (of : g.R.FeedRun.Of) (start : Start) (old : Transcript) (reports : g.row.E.Denot) → GoesByBytes (g.R.FeedRun.means of)
      → GoesOn (g.R.FeedRun.means of) (g.R.FeedRun.is l.fn.run of) start g.P.Port.tells old (g.P.Port.transcript l.fn.port) g.E.Sink.tells g.E.Sink.written g.E.Sink.faults reports l.fn.err
      → GoesOn (g.R.FeedRun.means of) (g.R.FeedRun.is l.run of) start g.P.Port.tells old (g.P.Port.transcript l.port) g.E.Sink.tells g.E.Sink.written g.E.Sink.faults reports l.err;
}
