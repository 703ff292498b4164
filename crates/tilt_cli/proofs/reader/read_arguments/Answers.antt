use Rattle.tilt_cli.specs.Tables.{options}
use Rattle.tilt_cli.proofs.reader.read_arguments.Goals as goal

pub returns : goal.returns
unfolding options
returns c = c.read.ensures.is
