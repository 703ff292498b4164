use Rattle.std.proofs.Common.{Some, None, ◌∙◌, ap, refl}
use Rattle.tilt_live_start.proofs.Steps.{session-next, session-none}
use Rattle.tilt_live_start.specs.declared.live_session.LiveSession.{LiveSession}
use Rattle.tilt_live_start.proofs.live_session.LiveSession.next.Goals as goal

pub returns-in_default-clause-next : goal.returns-in_default-clause-next
returns-in_default-clause-next c = λ accepted feed given is.
    let session = c.args.self.now in
    let later : LiveSession = record { live = c.next.new.self; open_start = session.open_start } in
    let found = rw c.in_default.is at (c.in_ok-snap.ensures.running accepted is.code is.left is.returned is.running) in
    let tick = rw c.in_default.is at c.in_ok-snap.ensures.tick in
    session-none session later accepted feed given is refl tick found

pub returns-clause-next : goal.returns-clause-next
returns-clause-next c = λ accepted feed given is.
    let session = c.args.self.now in
    let later : LiveSession = record { live = c.next.new.self; open_start = None } in
    let found = rw c.in-Some.is at (c.in_ok-snap.ensures.running accepted is.code is.left is.returned is.running) in
    let tick = rw c.in-Some.is at c.in_ok-snap.ensures.tick in
    let all = session-next session later accepted feed given is c.in-Some.snap refl tick found in
    (ap Some c.opened-whole.ensures ∙ all.0, all.1)
