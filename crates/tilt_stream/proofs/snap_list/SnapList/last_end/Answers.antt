use Rattle.std.proofs.Common.{ap, ◌∙◌, neg_ℤ}
use Rattle.tilt_base.specs.declared.limits.TheConstants.{WIDE}
use Rattle.tilt_stream.specs.Snap.{last_end}
use Rattle.tilt_stream.proofs.Order.{last_end-low_if}
use Rattle.tilt_stream.proofs.snap_list.SnapList.last_end.Goals as goal

pub returns-clause-low : goal.returns-clause-low
returns-clause-low c =
    last_end-low_if (neg_ℤ WIDE) WIDE c.self.inside.snaps.items c.last_end.result c.self.invariant.in_order (c.last_end.ensures ∙ ap last_end c.deref.ensures.value)
