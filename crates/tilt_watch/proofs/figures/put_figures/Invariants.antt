use Rattle.std.proofs.Common.{Ok, take}
use Rattle.tilt_outside.specs.Written.{Puts}
use Rattle.tilt_watch.specs.Places.{figures_of}
use Rattle.tilt_watch.specs.Watch.{figures_text}
use Rattle.tilt_watch.proofs.figures.put_figures.Given as goal

abbrev pub invariant-loop-place : goal.invariant-loop-place
invariant-loop-place g l =
    Puts g.O.Sink.tells g.O.Sink.written g.O.Sink.faults g.O.Sink.takes l.initial.out l.out (figures_text (figures_of (take l.place-index l.panel))) (Ok tt)
