use Rattle.tilt_live_start.proofs.Checkpoints.{printed-first}
use Rattle.tilt_live_start.proofs.law.sessions_print_what_feeds_do.Goals as goal

pub returns : goal.returns
returns c = λ accepted checkpoint rows more valid same is of. printed-first accepted valid checkpoint same is rows of more
