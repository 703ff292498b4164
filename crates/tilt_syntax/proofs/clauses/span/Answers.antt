use Rattle.std.proofs.Common.{◌≡◌, to_z, of_z, w64, arith}
use Rattle.std.proofs.lemmas.Int.{ints}
use Rattle.tilt_syntax.specs.Descent.{done, met, missed}
use Rattle.tilt_syntax.specs.Statements.{span_plan}
use Rattle.tilt_syntax.proofs.Finding.{first-rest, then-rest}
use Rattle.tilt_syntax.proofs.clauses.span.Goals as goal

pub returns-in_err-opened : goal.returns-in_err-opened
unfolding span_plan
returns-in_err-opened c = rw c.from_residual.ensures (λ behind.
    missed c.in_err-opened.ensures.front done)

pub returns-in_err-start : goal.returns-in_err-start
unfolding span_plan
returns-in_err-start c = rw c.from_residual-in_err-start.ensures (λ behind.
    met c.in_ok-opened.ensures.front (c.in_err-start.ensures _))

pub returns-in_err-between : goal.returns-in_err-between
unfolding span_plan
returns-in_err-between c = rw c.from_residual-in_err-between.ensures (λ behind.
    met c.in_ok-opened.ensures.front (c.in_ok-start.ensures.goes_on _ _ (missed c.in_err-between.ensures.front done)))

pub returns-in_err-end : goal.returns-in_err-end
unfolding span_plan
returns-in_err-end c = rw c.from_residual-in_err-end.ensures (λ behind.
    met c.in_ok-opened.ensures.front (c.in_ok-start.ensures.goes_on _ _ (met c.in_ok-between.ensures.front (
    c.in_err-end.ensures _))))

pub returns-in_err-rest : goal.returns-in_err-rest
unfolding span_plan
returns-in_err-rest c = rw c.from_residual-in_err-rest.ensures (λ behind.
    met c.in_ok-opened.ensures.front (c.in_ok-start.ensures.goes_on _ _ (met c.in_ok-between.ensures.front (
    c.in_ok-end.ensures.goes_on _ _ (missed c.in_err-rest.ensures.front done)))))

pub returns : goal.returns
unfolding span_plan
returns c =
    let start : to_z w64 (of_z w64 c.in_ok-start.start) ≡ c.in_ok-start.start = omega (arith, ints) in
    let end : to_z w64 (of_z w64 c.in_ok-end.end) ≡ c.in_ok-end.end = omega (arith, ints) in
    rw (start, end) (record {
      goes_on = λ behind r h.
          met c.in_ok-opened.ensures.front (c.in_ok-start.ensures.goes_on _ _ (met c.in_ok-between.ensures.front (
          c.in_ok-end.ensures.goes_on _ _ (met c.in_ok-rest.ensures.front h))));
      rest = then-rest (first-rest c.in_ok-opened.ensures.front) (then-rest c.in_ok-start.ensures.rest (
          then-rest (first-rest c.in_ok-between.ensures.front) (then-rest c.in_ok-end.ensures.rest (
          first-rest c.in_ok-rest.ensures.front))));
    })
