use Rattle.std.proofs.Common.{[]}
use Rattle.tilt_operators.proofs.Spans.{whole_has}
use Rattle.tilt_operators.proofs.part.whole_bound.Goals as goal

pub returns-in_err-number : goal.returns-in_err-number
returns-in_err-number c = rw c.from_residual.ensures (λ n h. c.in_err-number.ensures.front n [] (whole_has _ n h))
