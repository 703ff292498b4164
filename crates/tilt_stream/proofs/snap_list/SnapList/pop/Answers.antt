use Rattle.std.proofs.Common.{option_to_list}
use Rattle.tilt_stream.proofs.Order.{AreSnapshots-front}
use Rattle.tilt_stream.proofs.snap_list.SnapList.pop.Goals as goal

pub invariant_of-self : goal.invariant_of-self
invariant_of-self c = AreSnapshots-front c.pop.new.self.items (option_to_list c.pop.result) (rw c.pop.ensures.items at c.self.invariant)
