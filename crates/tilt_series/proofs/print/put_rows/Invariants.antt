use Rattle.std.proofs.Common.{Ok, take}
use Rattle.tilt_outside.specs.Written.{Puts}
use Rattle.tilt_stream.specs.Text.{lines_of}
use Rattle.tilt_series.proofs.print.put_rows.Given as goal

abbrev pub invariant-loop-snap : goal.invariant-loop-snap
invariant-loop-snap g l =
    Puts g.O.Sink.tells g.O.Sink.written g.O.Sink.faults g.O.Sink.takes l.initial.sink l.sink (lines_of (take l.snap-index l.snap-items)) (Ok tt)
