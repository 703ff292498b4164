use Rattle.tilt_stream.proofs.Order.{AreSnapshots-push}
use Rattle.tilt_stream.proofs.snap_list.SnapList.push.Goals as goal

pub invariant_of-self-2 : goal.invariant_of-self-2
invariant_of-self-2 c =
    rw c.in_ok-push.ensures.items (AreSnapshots-push c.self.inside.snaps.items c.args.snap c.self.invariant c.requires.low
    (rw c.self.view_is c.requires.touches) (rw (← c.snap.view_is) c.snap.invariant) c.requires.high)
