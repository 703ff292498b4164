use Rattle.tilt_feed.proofs.Whole.{fed-whole}
use Rattle.tilt_feed.proofs.law.all_is_printed.Goals as goal

pub returns : goal.returns
returns c = fed-whole
