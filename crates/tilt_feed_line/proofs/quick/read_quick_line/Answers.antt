use Rattle.tilt_feed_line.proofs.AtOnce.{quick_line}
use Rattle.tilt_feed_line.proofs.quick.read_quick_line.Goals as goal

pub returns : goal.returns
returns c =
    quick_line c.args.inputs.now c.args.line.now c.read_update.result (rw c.without_return.ensures at c.read_update.ensures)
