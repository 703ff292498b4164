use Rattle.tilt_operators.proofs.Judged.{tokens_judged}
use Rattle.tilt_operators.proofs.Unique.{one_flow_of, one_refusal, flow-or-refused}
use Rattle.tilt_operators.proofs.law.tokens_have_one_outcome.Goals as goal

pub returns-clause-one : goal.returns-clause-one
returns-clause-one c = λ ts flow other is also. one_flow_of ts flow other is also

pub returns-clause-first : goal.returns-clause-first
returns-clause-first c = λ ts fault other is also. one_refusal ts fault other is also

pub returns-clause-either : goal.returns-clause-either
returns-clause-either c = λ ts flow fault is refused. flow-or-refused ts flow fault is refused

pub returns-clause-some : goal.returns-clause-some
returns-clause-some c = λ ts. tokens_judged ts
