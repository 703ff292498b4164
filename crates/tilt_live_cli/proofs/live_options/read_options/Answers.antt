use Rattle.tilt_live_cli.specs.LiveOptions.{live_options}
use Rattle.tilt_live_cli.proofs.live_options.read_options.Goals as goal

pub returns : goal.returns
unfolding live_options
returns c = c.read.ensures.is
