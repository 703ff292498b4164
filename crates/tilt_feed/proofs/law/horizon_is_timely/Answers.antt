use Rattle.tilt_feed.proofs.Timely.{fed-timely}
use Rattle.tilt_feed.proofs.law.horizon_is_timely.Goals as goal

pub returns : goal.returns
returns c = fed-timely
