use Rattle.std.proofs.Common.{◌≡◌, ◌+◌, [], length, arith, append-nil}
use Rattle.std.proofs.lemmas.Result.{err_from_is_err_and}
use Rattle.tilt_syntax.specs.Query.{AreGood, here, later, kinds, statements}
use Rattle.tilt_syntax.specs.Tree.{statement_tree}
use Rattle.tilt_syntax.proofs.Parsing.{good-step, none-left}
use Rattle.tilt_syntax.proofs.parser.good_statements.Goals as goal

pub returns-in_err-statement-clause-faulty : goal.returns-in_err-statement-clause-faulty
returns-in_err-statement-clause-faulty c =
    let p = err_from_is_err_and c.from_residual.result c.from_residual.ensures.1 in
    rw (p.1, p.2) (λ other. (
    let cause = c.in_err-statement.ensures.faulty other in
    c.loop-rest.invariant.faulty _ (rw c.first_statement.ensures.cut (here (rw c.len.ensures at cause)))))

pub loop-rest-preserved : goal.loop-rest-preserved
loop-rest-preserved c =
    let cut = c.first_statement.ensures.cut in
    let one : length (statements (kinds c.loop-rest.rest.now)) ≡ length (statements (kinds c.first_statement.result.1.now)) + 1 = rw cut
    (omega arith) in
    let longer = c.in_ok-push_statement.ensures.len in
    let few = c.loop-rest.invariant.few in
    record {
      sound = c.first_statement.ensures.sound c.loop-rest.invariant.sound;
      few = omega arith;
      good = good-step (statements
          (kinds c.args.tokens.now)) _ _ c.loop-rest.read.items c.push_statement.new.read.items c.in_ok-statement.statement
          c.in_ok-push_statement.ensures.items c.in_ok-statement.ensures.good
          (λ others g. c.loop-rest.invariant.good others (rw (← c.first_statement.ensures.cut) at g));
      faulty = λ fault h. c.loop-rest.invariant.faulty fault (rw cut (
          later (statement_tree c.in_ok-statement.statement) c.in_ok-statement.ensures.good (rw longer at h)));
    }

pub returns-clause-good : goal.returns-clause-good
returns-clause-good c =
    let none = none-left c.loop-rest.rest.now c.loop-rest-test.ensures in
    let nothing : AreGood (statements (kinds c.loop-rest.rest.now)) [] = rw none tt in
    rw append-nil at (c.loop-rest.invariant.good [] nothing)
