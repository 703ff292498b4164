use Rattle.tilt_code.proofs.Names.{reserved_is}
use Rattle.tilt_code.proofs.line.is_reserved.Goals as goal

pub returns : goal.returns
returns c = reserved_is c.args.bytes.now c.reserved.result c.reserved.ensures
