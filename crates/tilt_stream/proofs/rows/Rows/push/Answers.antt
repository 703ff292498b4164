use Rattle.std.proofs.Common.{neg_ℤ}
use Rattle.tilt_base.specs.declared.limits.TheConstants.{T}
use Rattle.tilt_stream.proofs.Order.{InOrder-push}
use Rattle.tilt_stream.proofs.rows.Rows.push.Goals as goal

pub invariant_of-self-2 : goal.invariant_of-self-2
invariant_of-self-2 c =
    rw c.in_ok-push.ensures.items (InOrder-push (neg_ℤ T) T c.self.inside.rows.items c.args.row c.self.invariant c.requires.low
    (rw c.self.view_is c.requires.behind) (rw (← c.row.view_is) c.row.invariant) c.requires.high)

pub returns-clause-in_order : goal.returns-clause-in_order
returns-clause-in_order c =
    rw c.in_ok-push.ensures.items (InOrder-push (neg_ℤ T) T c.self.inside.rows.items c.args.row c.self.invariant c.requires.low
    (rw c.self.view_is c.requires.behind) (rw (← c.row.view_is) c.row.invariant) c.requires.high)
