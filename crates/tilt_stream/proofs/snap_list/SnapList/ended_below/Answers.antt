use Rattle.std.proofs.Common.{int_lt, neg_ℤ, rules}
use Rattle.std.proofs.lemmas.List.Sorted.{IsPartitionPoint-from_clause}
use Rattle.tilt_base.specs.declared.limits.TheConstants.{WIDE}
use Rattle.tilt_stream.proofs.Ended.{ended-parted, ended-counted}
use Rattle.tilt_stream.specs.Snap.{Snapshot}
use Rattle.tilt_stream.proofs.snap_list.SnapList.ended_below.Goals as goal

pub returns : goal.returns
returns c =
    let parted = ended-parted (neg_ℤ WIDE) WIDE c.self.inside.snaps.items c.args.tick c.self.invariant.in_order in
    let point = IsPartitionPoint-from_clause (λ (s : Snapshot). int_lt s.end c.args.tick) _ _ c.partition_point.ensures.partitioned (rw c.deref.ensures.value parted) (λ a r q k. search rules) in
    rw (← c.self.view_is, ← c.deref.ensures.value) (ended-counted _ c.args.tick _ c.partition_point.ensures.bound point)
