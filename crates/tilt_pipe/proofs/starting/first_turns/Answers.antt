use Rattle.std.proofs.Common.{length, add-one}
use Rattle.tilt_pipe.proofs.Starts.{each-push}
use Rattle.tilt_pipe.specs.Gathered.{HasBegun}
use Rattle.tilt_pipe.proofs.starting.first_turns.Goals as goal

pub loop-place-preserved : goal.loop-place-preserved
loop-place-preserved c =
    let p = c.args.rings.now in
    rw (add-one, c.in_ok-push.ensures.items)
    (each-push p (HasBegun p (length p.code.loops)) c.loop-place.turns.items c.loop-place.place c.in_ok-new_turns.field-0
    c.loop-place.invariant c.in_ok-new_turns.ensures)
