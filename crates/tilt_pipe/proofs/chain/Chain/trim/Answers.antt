use Rattle.tilt_pipe.proofs.Settled.{none-goes}
use Rattle.tilt_pipe.proofs.chain.Chain.trim.Goals as goal

pub returns-in-None-clause-settles : goal.returns-in-None-clause-settles
returns-in-None-clause-settles c = record {
  lets = none-goes c.args.self.now c.args.place c.loops.ensures.rings c.requires.may;
  settled = c.in-None.ensures;
}
