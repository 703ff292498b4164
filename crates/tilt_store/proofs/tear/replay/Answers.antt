use Rattle.tilt_store.proofs.Changing.{replayed}
use Rattle.tilt_store.proofs.tear.replay.Goals as goal

pub loop-change-preserved : goal.loop-change-preserved
loop-change-preserved c = replayed _ _ _ c.change-item.result _ _ c.loop-change-test.true c.change-item.is c.loop-change.invariant c.in_ok-tear_change.ensures
