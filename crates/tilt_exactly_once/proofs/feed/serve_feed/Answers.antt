use Rattle.std.proofs.Common.{refl}
use Rattle.tilt_exactly_once.proofs.Fed.{fed-from, fault-since}
use Rattle.tilt_exactly_once.specs.Feeding.{unstarted}
use Rattle.tilt_exactly_once.specs.Framed.{KeepsLast, frames}
use Rattle.tilt_exactly_once.proofs.feed.serve_feed.Goals as goal

pub returns-in-Ok-clause-served : goal.returns-in-Ok-clause-served
returns-in-Ok-clause-served g c told bytes holds =
    let of = g.M.Machine.of c.args.recipe in
    let started = c.in-Ok.ensures.started told bytes holds in
    rw c.failing.ensures (fed-from g.F.Folder.seen g.F.Folder.may_leave (KeepsLast g.M.Machine.is) g.M.Machine.output of (frames g.M.Machine.commits) g.M.Machine.stops
    g.M.Machine.fits g.F.Folder.moment g.F.Folder.left_since g.P.Port.tells c.args.plan.from bytes c.args.folder c.in-Ok.keeper.ledger.folder
    (g.P.Port.transcript c.args.port.now) c.serve_from-end.new.keeper.ledger.folder (g.P.Port.transcript c.serve_from-end.new.port) c.serve_from-end.result
    started.leaves (c.serve_from-end.ensures.served told of bytes started.underway started.holds))

pub returns-in-Ok-clause-failed : goal.returns-in-Ok-clause-failed
returns-in-Ok-clause-failed g c =
    rw c.failing.ensures (fault-since c.serve_from-end.result _ _ _ c.in-Ok.ensures.faults c.serve_from-end.ensures.failed)

pub returns-in-Err-clause-served : goal.returns-in-Err-clause-served
returns-in-Err-clause-served g c told bytes holds =
    unstarted refl (c.in-Err.ensures.taken told bytes holds) (c.in-Err.ensures.any_moment told bytes holds)
