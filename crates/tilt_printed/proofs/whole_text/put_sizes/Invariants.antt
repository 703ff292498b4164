use Rattle.std.proofs.Common.{Ok, take}
use Rattle.std.specs.List.{flat_map}
use Rattle.tilt_outside.specs.Written.{Puts}
use Rattle.tilt_printed.specs.Sizes.{size_text}
use Rattle.tilt_printed.proofs.whole_text.put_sizes.Given as goal

abbrev pub invariant-loop-size : goal.invariant-loop-size
invariant-loop-size g l =
    Puts g.O.Sink.tells g.O.Sink.written g.O.Sink.faults g.O.Sink.takes l.initial.out l.out (flat_map size_text (take l.size-index l.sizes)) (Ok tt)
