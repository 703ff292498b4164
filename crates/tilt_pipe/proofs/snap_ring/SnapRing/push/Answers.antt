use Rattle.tilt_stream.proofs.Order.{AreSnapshots-push}
use Rattle.tilt_pipe.proofs.snap_ring.SnapRing.push.Goals as goal

pub invariant_of-self-2 : goal.invariant_of-self-2
invariant_of-self-2 c =
    rw c.in_ok-push_back.ensures.ok (AreSnapshots-push c.self.inside.ring.items c.args.snap c.self.invariant c.requires.low
    (rw c.self.view_is c.requires.touches) (rw (← c.snap.view_is) c.snap.invariant) c.requires.high)
