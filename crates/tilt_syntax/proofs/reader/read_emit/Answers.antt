use Rattle.std.proofs.Common.{refl}
use Rattle.tilt_syntax.specs.Descent.{done, met, missed}
use Rattle.tilt_syntax.proofs.Descending.{end-comes, end-none}
use Rattle.tilt_syntax.proofs.Finding.{found-comes, none-comes}
use Rattle.tilt_syntax.proofs.reader.read_emit.Goals as goal

pub returns-in_default : goal.returns-in_default
returns-in_default c = λ behind. none-comes (rw c.in_default.is at c.in_ok-expr.ensures)

pub returns-in_default-after_key : goal.returns-in_default-after_key
returns-in_default-after_key c = λ behind.
    found-comes (rw c.in-Some.is at c.in_ok-expr.ensures) (missed c.in_default-after_key.ensures.front done)

pub returns-in_default-span : goal.returns-in_default-span
returns-in_default-span c = λ behind.
    found-comes (rw c.in-Some.is at c.in_ok-expr.ensures) (met c.in-Some-after_key.ensures.front (c.in_default-span.ensures _))

pub returns-in_default-grid : goal.returns-in_default-grid
returns-in_default-grid c = λ behind.
    found-comes (rw c.in-Some.is at c.in_ok-expr.ensures) (met c.in-Some-after_key.ensures.front (c.in-Some-span.ensures.goes_on _ _ (
    c.in_default-grid.ensures _)))

pub returns-then-not-is_end : goal.returns-then-not-is_end
returns-then-not-is_end c = λ behind.
    found-comes (rw c.in-Some.is at c.in_ok-expr.ensures) (met c.in-Some-after_key.ensures.front (c.in-Some-span.ensures.goes_on _ _ (
    c.in-Some-grid.ensures.goes_on _ _ (end-none _ _ (λ e. (let at_end = c.if-not-is_end.ensures.1 e in cc))))))

pub returns : goal.returns
returns c = λ behind r h.
    found-comes (rw c.in-Some.is at c.in_ok-expr.ensures) (met c.in-Some-after_key.ensures.front (c.in-Some-span.ensures.goes_on _ _ (
    c.in-Some-grid.ensures.goes_on _ _ (end-comes _ _ r (c.if-not-is_end.ensures.0 refl) h))))
