use Rattle.tilt_pipe.specs.Chain.{AreLeft}
use Rattle.tilt_pipe.specs.Trimmed.{StandAlike}
use Rattle.tilt_pipe.proofs.chain.Chain.trim_held.Given as goal

abbrev pub invariant-loop-number : goal.invariant-loop-number
invariant-loop-number l = record {
  left : AreLeft l.self l.place l.number;
  alike : StandAlike l.fn.self.rings l.self.rings;
}
