use Rattle.tilt_live.proofs.Reaching.{code-ends, code-reaches}
use Rattle.tilt_live.proofs.law.code_reaches_the_horizon.Goals as goal

pub returns-clause-known : goal.returns-clause-known
returns-clause-known c = code-reaches

pub returns-clause-ends : goal.returns-clause-ends
returns-clause-ends c = code-ends
