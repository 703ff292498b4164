use Rattle.std.proofs.Common.{length}
use Rattle.tilt_pipe.specs.Gathered.{AreEach, HasBegun}
use Rattle.tilt_pipe.proofs.starting.first_turns.Given as goal

abbrev pub invariant-loop-place : goal.invariant-loop-place
invariant-loop-place l = AreEach l.rings l.place (HasBegun l.rings (length l.rings.code.loops)) l.turns.items
