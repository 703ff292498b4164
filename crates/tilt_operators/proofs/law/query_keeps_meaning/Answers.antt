use Rattle.std.proofs.Common.{refl}
use Rattle.tilt_operators.proofs.Accepted.{accepted}
use Rattle.tilt_operators.proofs.Kept.{keeps}
use Rattle.tilt_operators.proofs.Written.{written}
use Rattle.tilt_operators.proofs.law.query_keeps_meaning.Goals as goal

pub returns-clause-law : goal.returns-clause-law
returns-clause-law c = λ flow is. keeps flow is

pub returns-clause-parsed : goal.returns-clause-parsed
returns-clause-parsed c = λ flow is. written flow is

pub returns-clause-accepted : goal.returns-clause-accepted
returns-clause-accepted c = λ flow is. rw (accepted flow is) refl
