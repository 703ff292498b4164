use Rattle.std.proofs.Common.{◌≡◌, ◌∙◌, List, ℕ, Err, ap, arith}
use Rattle.std.proofs.lemmas.Result.{err_from_is_err_and}
use Rattle.tilt_exactly_once.proofs.Passed.{passed-more, short-more}
use Rattle.tilt_exactly_once.specs.Last.{last_of}
use Rattle.tilt_exactly_once.proofs.passing.pass_over.Goals as goal

pub returns-in_err-left-clause-short : goal.returns-in_err-left-clause-short
returns-in_err-left-clause-short g c told =
    let p = err_from_is_err_and c.from_residual.result c.from_residual.ensures.1 in
    rw (p.1 ∙ ap Err p.2)
    (λ same.
    short-more c.args.count c.loop.left (λ (passed : List ℕ). c.loop.last.items ≡ last_of passed) _ _ _ c.loop.invariant.left
    (c.loop.invariant.passed told) (c.in_err-left.ensures.short told same))

pub loop-preserved : goal.loop-preserved
loop-preserved g c =
    let few = c.in_ok-left.ensures.most in
    let size = c.pass_some.ensures.length in
    let reads = c.pass_some.ensures.reads in
    record {
      space = omega (arith, size, c.loop.invariant.space);
      left = omega (arith, c.loop.invariant.left);
      passed = λ told.
          passed-more c.in_ok-left.field-0 c.args.count c.loop.left c.loop.last.items c.pass_some.new.last.items _ _ _ few.1 c.loop.invariant.left
          (c.loop.invariant.passed told) (c.in_ok-left.ensures.passed told);
      reads = omega (arith, c.loop.invariant.reads, reads);
    }
