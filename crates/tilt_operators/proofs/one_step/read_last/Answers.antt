use Rattle.tilt_operators.proofs.Reading.{no_stretch}
use Rattle.tilt_operators.proofs.Spans.{inside_last, last_inside}
use Rattle.tilt_operators.proofs.one_step.read_last.Goals as goal

pub returns-in_err-domain : goal.returns-in_err-domain
returns-in_err-domain c = rw c.from_residual-in_err-domain.ensures (λ domain h.
    c.in_err-domain.ensures domain (last_inside _ _ _ domain c.in_ok-over.ensures.front c.in_ok-bounds.ensures.front h))

pub returns-then-is_stretch : goal.returns-then-is_stretch
returns-then-is_stretch c =
    inside_last _ _ _ c.in_ok-domain.domain c.in_ok-over.ensures.front c.in_ok-bounds.ensures.front c.in_ok-domain.ensures cc

pub returns-else-is_stretch : goal.returns-else-is_stretch
returns-else-is_stretch c =
    no_stretch _ _ _ c.in_ok-domain.domain c.in_ok-over.ensures.front c.in_ok-bounds.ensures.front c.in_ok-domain.ensures cc
