use Rattle.std.proofs.Common.{arith}
use Rattle.std.proofs.lemmas.Int.{ints, clamps, to_z-of_z}
use Rattle.tilt_checkpoint.proofs.frame.Frame.decided.Goals as goal

pub returns : goal.returns
returns c = grind (arith, ints, clamps, to_z-of_z)
