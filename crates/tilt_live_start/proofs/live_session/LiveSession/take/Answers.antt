use Rattle.std.proofs.Common.{refl}
use Rattle.tilt_live_start.proofs.Steps.{session-taken}
use Rattle.tilt_live_start.specs.declared.live_session.LiveSession.{LiveSession}
use Rattle.tilt_live_start.proofs.live_session.LiveSession.take.Goals as goal

pub returns-clause-taken : goal.returns-clause-taken
returns-clause-taken c = λ accepted feed given is.
    let session = c.args.self.now in
    let later : LiveSession = record { live = c.take.new.self; open_start = session.open_start } in
    session-taken session later accepted feed given is c.args.event c.take.result refl c.take.ensures.tick (c.take.ensures.running accepted is.code is.left is.returned is.running)
