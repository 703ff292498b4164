use Rattle.std.proofs.Common.{ap, arith}
use Rattle.std.proofs.lemmas.Result.{err_from_is_err_and}
use Rattle.tilt_syntax.proofs.Parsing.{first-statement, none-left, some-left}
use Rattle.tilt_syntax.specs.Query.{statements}
use Rattle.tilt_operators.proofs.Later.{bad-between, bad-last, faulty-later, good-last, good-later}
use Rattle.tilt_operators.proofs.steps.read_later.Goals as goal

pub returns-in_err-step-clause-faulty : goal.returns-in_err-step-clause-faulty
returns-in_err-step-clause-faulty c =
    let p = err_from_is_err_and c.from_residual.result c.from_residual.ensures.1 in
    let cut = first-statement c.loop-rest.rest.now (some-left c.loop-rest.rest.now c.loop-rest-test.ensures) in
    rw (p.1, p.2) (λ other. (
    let cause = c.in_err-step.ensures.faulty other in
    c.loop-rest.invariant.faulty _ (bad-between _ _ _ _ _ _ cut (rw c.len.ensures at cause))))

pub loop-rest-preserved : goal.loop-rest-preserved
loop-rest-preserved c =
    let cut = c.first_statement-in-loop-rest.ensures.cut in
    let fit = rw c.len.ensures at c.in_ok-step.ensures.fit in
    let longer = c.in_ok-push_step.ensures.len in
    let place = fit.0.place in
    record {
      sound = c.first_statement-in-loop-rest.ensures.first_sound c.loop-rest.invariant.sound_rest;
      sound_rest = c.first_statement-in-loop-rest.ensures.sound c.loop-rest.invariant.sound_rest;
      few = omega arith;
      good = λ others domain h.
          good-later _ _ _ _ _ _ _ _ c.in_ok-step.step c.in_ok-push_step.ensures.items cut fit c.loop-rest.invariant.good others domain (rw longer at h);
      faulty = λ fault h. c.loop-rest.invariant.faulty fault (faulty-later _ _ _ _ _ c.in_ok-step.step fault cut fit (rw longer at h));
    }

pub returns-in_err-domain-clause-faulty : goal.returns-in_err-domain-clause-faulty
returns-in_err-domain-clause-faulty c =
    let p = err_from_is_err_and c.from_residual-in_err-domain.result c.from_residual-in_err-domain.ensures.1 in
    let none = ap statements (none-left c.loop-rest.rest.now c.loop-rest-test.ensures) in
    rw (p.1, p.2) (λ other. c.loop-rest.invariant.faulty _ (bad-last _ _ _ _ none (rw c.len-2.ensures at c.in_err-domain.ensures.faulty)))

pub returns-clause-read : goal.returns-clause-read
returns-clause-read c =
    let none = ap statements (none-left c.loop-rest.rest.now c.loop-rest-test.ensures) in
    good-last _ _ _ _ _ c.in_ok-domain.domain none (rw c.len-2.ensures at c.in_ok-domain.ensures.fit) c.loop-rest.invariant.good
