use Rattle.std.proofs.Common.{FitsSigned, to_z-of_z, w64, neg_ℤ, rules}
use Rattle.tilt_base.specs.declared.limits.TheConstants.{WIDE}
use Rattle.tilt_pipe.proofs.Kept.{next-end, no-end}
use Rattle.tilt_pipe.proofs.loop_ring.LoopRing.first_end.Goals as goal

pub returns-in_err-at : goal.returns-in_err-at
returns-in_err-at c = rw c.from_residual.ensures (λ made in_order is. no-end made c.args.self.now.held c.args.self.now.forgotten is (search rules))

pub returns : goal.returns
returns c = λ made in_order is.
    let fits : FitsSigned w64 c.result.inside.end = search rules in
    let next = next-end (neg_ℤ WIDE) WIDE made c.args.self.now.held c.args.self.now.forgotten c.in_ok-at.field-0 in_order is (search rules) in
    rw (to_z-of_z fits) (rw (← c.result.view_is) at next)
