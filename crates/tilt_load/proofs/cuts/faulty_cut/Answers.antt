use Rattle.tilt_load.proofs.InputNames.{names-cut}
use Rattle.tilt_load.proofs.cuts.faulty_cut.Goals as goal

pub returns-clause-told : goal.returns-clause-told
returns-clause-told c = rw (names-cut c.args.binds.now) at c.faulty_name.ensures.told
