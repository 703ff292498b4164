use Rattle.tilt_watermarks.proofs.Places.{count-unknown}
use Rattle.tilt_watermarks.proofs.watermarks.Watermarks.new.Goals as goal

pub invariant_of-result : goal.invariant_of-result
invariant_of-result c = record { none = λ is. rw (c.in_ok-lanes.ensures) (count-unknown c.args.inputs) }
