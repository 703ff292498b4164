use Rattle.std.proofs.Common.{None, refl}
use Rattle.tilt_live.proofs.Lives.{live-taken, run-taken, still-taken}
use Rattle.tilt_live.specs.declared.live.Live.{Live}
use Rattle.tilt_live.proofs.live.Live.take.Goals as goal

pub returns-clause-running : goal.returns-clause-running
returns-clause-running c = λ accepted code left returned is.
    let live = c.args.self.now in
    let later : Live = record { accepted = live.accepted; engine = c.take.new.self; refused = live.refused; known = None; upto = live.upto; alloc = live.alloc } in
    run-taken live later refl refl accepted code left returned is c.args.event c.take.result refl (c.take.ensures.taken code left returned is.runs)

pub returns-clause-taken : goal.returns-clause-taken
returns-clause-taken c = λ accepted feed given is.
    let live = c.args.self.now in
    let later : Live = record { accepted = live.accepted; engine = c.take.new.self; refused = live.refused; known = None; upto = live.upto; alloc = live.alloc } in
    live-taken live later accepted feed given is c.args.event c.take.result refl (returns-clause-running c accepted is.code is.left is.returned is.running)

pub returns-clause-live : goal.returns-clause-live
returns-clause-live c =
    let live = c.args.self.now in
    let later : Live = record { accepted = live.accepted; engine = c.take.new.self; refused = live.refused; known = None; upto = live.upto; alloc = live.alloc } in
    still-taken live later c.args.event c.take.result refl (returns-clause-running c)
