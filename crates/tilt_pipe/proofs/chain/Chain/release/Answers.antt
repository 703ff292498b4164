-- One snapshot after the other is let go.
use Rattle.std.proofs.Common.{FitsSigned, w64, rules}
use Rattle.std.proofs.lemmas.Int.{to_z-of_z}
use Rattle.tilt_pipe.proofs.Settled.{none-goes}
use Rattle.tilt_pipe.proofs.chain.Chain.release.Goals as goal

pub loop-next-init : goal.loop-next-init
loop-next-init c =
    let fits : FitsSigned w64 c.args.first = search rules in
    record {
      lets = none-goes c.args.self.now c.args.place c.loops.ensures.rings c.requires.may;
      end = rw (to_z-of_z w64 c.args.first fits) c.requires.«end»;
    }
