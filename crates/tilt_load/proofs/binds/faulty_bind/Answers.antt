use Rattle.tilt_load.proofs.InputNames.{names-bound}
use Rattle.tilt_load.proofs.binds.faulty_bind.Goals as goal

pub returns-clause-told : goal.returns-clause-told
returns-clause-told c = rw (names-bound c.args.binds.now) at c.faulty_name.ensures.told
