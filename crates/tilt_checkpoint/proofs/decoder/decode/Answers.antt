use Rattle.tilt_checkpoint.proofs.Decoding.{none-refused, refused-none}
use Rattle.tilt_checkpoint.proofs.decoder.decode.Goals as goal

pub returns-clause-bad : goal.returns-clause-bad
returns-clause-bad c = refused-none c.read.result c.args.bytes.now c.read.ensures.only

pub returns-clause-none : goal.returns-clause-none
returns-clause-none c = none-refused c.read.result c.args.bytes.now c.read.ensures.checkpoint
