use Rattle.std.proofs.Common.{arith}
use Rattle.std.proofs.lemmas.Int.{ints}
use Rattle.tilt_checkpoint.proofs.Frames.{frame_bounds}
use Rattle.tilt_checkpoint.proofs.frame.Frame.new.Goals as goal

pub returns-clause-bounds : goal.returns-clause-bounds
returns-clause-bounds c =
    let h = frame_bounds c.args.core.now c.args.reach.now c.domain-domain.result c.requires c.back.ensures.kept c.domain-domain.ensures.stretch in
    record {
      low = omega (arith, ints);
      some_ticks = omega (arith, ints);
      high = omega (arith, ints);
      back_low = omega (arith, ints);
      back_high = omega (arith, ints);
      ahead_low = omega (arith, ints);
      ahead_high = omega (arith, ints);
    }
