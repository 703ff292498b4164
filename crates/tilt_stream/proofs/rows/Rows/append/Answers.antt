use Rattle.std.proofs.Common.{neg_ℤ}
use Rattle.tilt_base.specs.declared.limits.TheConstants.{T}
use Rattle.tilt_stream.proofs.Order.{InOrder-after}
use Rattle.tilt_stream.proofs.rows.Rows.append.Goals as goal

pub invariant_of-self-2 : goal.invariant_of-self-2
invariant_of-self-2 c =
    rw c.in_ok-extend_from_slice.ensures.items
    (InOrder-after (neg_ℤ T) T c.self.inside.rows.items c.args.more.now c.self.invariant c.requires.rows (rw c.self.view_is c.requires.behind))

pub returns-clause-in_order : goal.returns-clause-in_order
returns-clause-in_order c =
    rw c.in_ok-extend_from_slice.ensures.items
    (InOrder-after (neg_ℤ T) T c.self.inside.rows.items c.args.more.now c.self.invariant c.requires.rows (rw c.self.view_is c.requires.behind))
