use Rattle.std.proofs.Common.{Ok, take}
use Rattle.std.specs.List.{flat_map}
use Rattle.tilt_outside.specs.Written.{Puts}
use Rattle.tilt_printed.specs.Reached.{reached_line}
use Rattle.tilt_printed.proofs.reached.put_reached.Given as goal

abbrev pub invariant-loop-span : goal.invariant-loop-span
invariant-loop-span g l =
    Puts g.O.Sink.tells g.O.Sink.written g.O.Sink.faults g.O.Sink.takes l.initial.out l.out (flat_map reached_line (take l.span-index l.reached)) (Ok tt)
