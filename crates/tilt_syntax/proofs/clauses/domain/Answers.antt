use Rattle.tilt_syntax.specs.Descent.{met, missed}
use Rattle.tilt_syntax.specs.Statements.{domain_plan}
use Rattle.tilt_syntax.proofs.Finding.{first-rest, same-rest, then-rest}
use Rattle.tilt_syntax.proofs.clauses.domain.Goals as goal

pub returns-in_default : goal.returns-in_default
unfolding domain_plan
returns-in_default c = record { goes_on = λ behind r h. missed c.in_default.ensures.front h; rest = same-rest _ }

pub returns-in_err-over : goal.returns-in_err-over
unfolding domain_plan
returns-in_err-over c = rw c.from_residual.ensures (λ behind. met c.in-Some.ensures.front (c.in_err-over.ensures _))

pub returns : goal.returns
unfolding domain_plan
returns c = record {
  goes_on = λ behind r h. met c.in-Some.ensures.front (c.in_ok-over.ensures.goes_on _ _ h);
  rest = then-rest (first-rest c.in-Some.ensures.front) c.in_ok-over.ensures.rest;
}
