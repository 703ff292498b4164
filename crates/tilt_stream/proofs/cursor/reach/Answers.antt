use Rattle.std.proofs.Common.{FitsSigned, to_z-of_z, w64, arith, rules}
use Rattle.tilt_stream.proofs.Places.{ended-within}
use Rattle.tilt_stream.proofs.cursor.reach.Goals as goal

pub overflow_sub-made : goal.overflow_sub-made
overflow_sub-made g c =
    let fits : FitsSigned w64 c.args.tick = search rules in
    let all = ended-within c.args.tick (g.B.Buffer.list c.args.buffer.now) in
    let low = rw (to_z-of_z fits) at c.loop-step.invariant.low in
    omega (arith, all, low, c.made-made.ensures.count)

pub returns-clause-high : goal.returns-clause-high
returns-clause-high g c =
    let all = ended-within c.args.tick (g.B.Buffer.list c.args.buffer.now) in
    omega (arith, all, c.made-made.ensures.count)
