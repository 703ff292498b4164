use Rattle.std.proofs.Common.{refl}
use Rattle.tilt_pipe.proofs.RingsKept.{loop-is}
use Rattle.tilt_pipe.proofs.Starts.{first-begun}
use Rattle.tilt_pipe.specs.declared.chain.LoopTurns.{LoopTurns}
use Rattle.tilt_pipe.proofs.starting.new_turns.Goals as goal

pub returns : goal.returns
returns c = λ w is.
    let p = c.args.rings.now in
    let loop = loop-is p c.args.place w c.loops.result.now c.index-loops-place.result is c.loops.ensures.loops c.index-loops-place.is in
    let turns : LoopTurns = record { state = c.in_ok-new.field-0; sources = c.new-2.result; readers = c.new-3.result; passed = 0 } in
    first-begun p c.args.place w turns c.loops.ensures.code c.loops.ensures.rings is c.new-3.ensures.items refl (rw (← loop) c.in_ok-new.ensures)
