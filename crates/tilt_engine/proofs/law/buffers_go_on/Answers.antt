use Rattle.tilt_engine.proofs.GoingOn.{buffers-go_on, made-stays}
use Rattle.tilt_engine.proofs.law.buffers_go_on.Goals as goal

pub returns-clause-buffers : goal.returns-clause-buffers
returns-clause-buffers c = buffers-go_on

pub returns-clause-made : goal.returns-clause-made
returns-clause-made c = made-stays
