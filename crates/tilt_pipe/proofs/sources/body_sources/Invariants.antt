use Rattle.std.proofs.Common.{drop, length}
use Rattle.tilt_pipe.specs.Reads.{body_reads}
use Rattle.tilt_pipe.specs.Sources.{AreSources}
use Rattle.tilt_pipe.proofs.sources.body_sources.Given as goal

abbrev pub invariant-loop-number : goal.invariant-loop-number
invariant-loop-number l = AreSources (length l.rings.inputs) (body_reads (drop l.number l.body)) l.sources.items
