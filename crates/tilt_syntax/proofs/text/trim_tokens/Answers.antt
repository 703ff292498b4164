use Rattle.std.proofs.lemmas.Result.{err_from_is_err_and}
use Rattle.tilt_lexer.proofs.Next.{next_fault}
use Rattle.tilt_syntax.proofs.Keeping.{kept_more, kept_all, falls}
use Rattle.tilt_syntax.proofs.text.trim_tokens.Goals as goal

pub loop-kept-smaller : goal.loop-kept-smaller
loop-kept-smaller c =
    falls c.args.bytes.now c.loop-kept.at c.in-Some.token c.loop-kept.invariant.within (rw c.in-Some.is at c.in_ok-token.ensures.next)

pub loop-kept-preserved : goal.loop-kept-preserved
loop-kept-preserved c =
    kept_more c.args.bytes.now c.loop-kept.at c.loop-kept.kept c.add.new.self c.in-Some.token c.loop-kept.invariant
    (rw c.in-Some.is at c.in_ok-token.ensures.next) (c.in_ok-add.ensures)

pub returns-in_err-token-clause-faulty : goal.returns-in_err-token-clause-faulty
returns-in_err-token-clause-faulty c =
    let p = err_from_is_err_and c.from_residual.result c.from_residual.ensures.1 in
    rw (p.1, p.2) (λ other. c.loop-kept.invariant.faults _ (next_fault (c.in_err-token.ensures.faulty other)))

pub returns-clause-kept : goal.returns-clause-kept
returns-clause-kept c =
    kept_all c.args.bytes.now c.loop-kept.at c.loop-kept.kept c.loop-kept.invariant (rw c.in_default.is at c.in_ok-token.ensures.next)
