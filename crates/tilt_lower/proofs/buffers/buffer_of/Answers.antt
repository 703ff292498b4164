use Rattle.std.proofs.Common.{◌-◌, arith}
use Rattle.tilt_lower.proofs.Numbers.{loops_before-few}
use Rattle.tilt_lower.proofs.buffers.buffer_of.Goals as goal

pub overflow_add-result : goal.overflow_add-result
overflow_add-result c =
    let few = c.requires in
    let before = loops_before-few c.args.buffers.now.loops.now (c.args.source - c.args.buffers.now.inputs) in
    omega (arith, c.loops_before.ensures, before)
