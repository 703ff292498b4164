use Rattle.std.proofs.Common.{Some, int_lt, neg_ℤ, rules}
use Rattle.std.proofs.lemmas.List.Sorted.{IsPartitionPoint-from_clause}
use Rattle.tilt_base.specs.declared.limits.TheConstants.{WIDE}
use Rattle.tilt_stream.proofs.Ended.{ended-parted, ended-counted}
use Rattle.tilt_engine.proofs.NextReads.{unread-is}
use Rattle.tilt_stream.specs.Snap.{Snapshot}
use Rattle.tilt_engine.proofs.wanted.count_unread.Goals as goal

pub returns-in-Some : goal.returns-in-Some
returns-in-Some c =
    let parted = ended-parted (neg_ℤ WIDE) WIDE c.args.list.now c.in-Some.tick c.requires in
    let point = IsPartitionPoint-from_clause (λ (s : Snapshot). int_lt s.end c.in-Some.tick) _ _ c.partition_point.ensures.partitioned parted (λ a r q k. search rules) in
    let count = ended-counted c.args.list.now c.in-Some.tick c.partition_point.result c.partition_point.ensures.bound point in
    rw c.in-Some.is (unread-is (Some c.in-Some.tick) c.args.list.now c.partition_point.result (neg_ℤ WIDE) WIDE c.requires count)
