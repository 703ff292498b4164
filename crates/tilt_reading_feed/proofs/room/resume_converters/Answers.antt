use Rattle.std.proofs.Common.{arith}
use Rattle.tilt_reading_feed.proofs.Resuming.{resumed-more}
use Rattle.tilt_reading_feed.specs.Machine.{inputs_of}
use Rattle.tilt_reading_feed.proofs.room.resume_converters.Goals as goal

pub loop-input-preserved : goal.loop-input-preserved
loop-input-preserved c =
    resumed-more c.args.options.now c.args.inputs.now c.loop-input.input _ c.index-inputs-input.result (inputs_of c.loop-input.converters.items) _
    (omega arith) (omega arith) c.index-inputs-input.is c.loop-input.invariant c.in_ok-push_resumed.ensures
