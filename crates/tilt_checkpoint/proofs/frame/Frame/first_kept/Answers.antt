use Rattle.std.proofs.Common.{arith}
use Rattle.std.proofs.lemmas.Int.{ints, clamps}
use Rattle.tilt_checkpoint.proofs.frame.Frame.first_kept.Goals as goal

pub returns : goal.returns
returns c =
    let done = c.decided.ensures in
    let most = c.max.ensures.value in
    omega (arith, ints, clamps)
