use Rattle.std.proofs.Common.{ap}
use Rattle.std.proofs.lemmas.Result.{err_from_is_err_and}
use Rattle.tilt_syntax.proofs.Parsing.{none-left}
use Rattle.tilt_syntax.specs.Query.{statements}
use Rattle.tilt_operators.proofs.Later.{refused-alone, refused-first, refused-later, refused-none}
use Rattle.tilt_operators.proofs.steps.read_parts.Goals as goal

pub returns-then-is_empty-clause-faulty : goal.returns-then-is_empty-clause-faulty
returns-then-is_empty-clause-faulty c = λ other. refused-none _ (none-left c.args.tokens.now c.if-is_empty.ensures)

pub returns-in_default-clause-faulty : goal.returns-in_default-clause-faulty
returns-in_default-clause-faulty c = λ other.
    refused-first _ _ _ c.first_statement.ensures.cut (rw c.in_default.is at c.in_ok-first.ensures)

pub returns-then-is_empty-2-clause-faulty : goal.returns-then-is_empty-2-clause-faulty
returns-then-is_empty-2-clause-faulty c = λ other.
    refused-alone _ _ _ c.first_statement.ensures.cut (ap statements (none-left c.first_statement.result.1.now c.if-is_empty-2.ensures))

pub returns-in_err-steps-clause-faulty : goal.returns-in_err-steps-clause-faulty
returns-in_err-steps-clause-faulty c =
    let p = err_from_is_err_and c.from_residual-in_err-steps.result c.from_residual-in_err-steps.ensures.1 in
    rw (p.1, p.2) (λ other.
    refused-later _ _ _ _ _ c.first_statement.ensures.cut (rw c.in-Some.is at c.in_ok-first.ensures) (c.in_err-steps.ensures.faulty other))
