use Rattle.std.proofs.Common.{refl}
use Rattle.tilt_operators.proofs.steps.fit_step.Goals as goal

pub returns-in_default-clause-faulty : goal.returns-in_default-clause-faulty
returns-in_default-clause-faulty c = λ other. (refl, λ s fit. (rw c.in_default.is at c.in_ok-step.ensures) s)
