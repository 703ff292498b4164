use Rattle.std.proofs.Common.{int_lt, neg_ℤ, rules}
use Rattle.std.proofs.lemmas.List.Sorted.{IsPartitionPoint-from_clause}
use Rattle.tilt_base.specs.declared.limits.TheConstants.{WIDE}
use Rattle.tilt_stream.proofs.Ended.{ended-parted, ended-counted}
use Rattle.tilt_stream.specs.Snap.{Snapshot}
use Rattle.tilt_fix.proofs.piece.ended_below.Goals as goal

pub returns : goal.returns
returns c =
    let parted = ended-parted (neg_ℤ WIDE) WIDE c.args.snaps.now c.args.tick c.requires.in_order in
    let point = IsPartitionPoint-from_clause (λ (s : Snapshot). int_lt s.end c.args.tick) _ _ c.partition_point.ensures.partitioned parted (λ a r q k. search rules) in
    ended-counted c.args.snaps.now c.args.tick c.partition_point.result c.partition_point.ensures.bound point
