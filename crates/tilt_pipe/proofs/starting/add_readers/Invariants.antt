use Rattle.std.proofs.Common.{length}
use Rattle.tilt_pipe.specs.Gathered.{AreEach, HasAdded}
use Rattle.tilt_pipe.proofs.starting.add_readers.Given as goal

abbrev pub invariant-loop-source : goal.invariant-loop-source
invariant-loop-source l = AreEach l.rings (length l.rings.code.loops) (HasAdded l.rings l.place l.sources l.source-index) l.turns
