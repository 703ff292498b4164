use Rattle.std.proofs.Common.{int_le, neg_ℤ, rules}
use Rattle.std.proofs.lemmas.List.Sorted.{IsPartitionPoint-from_clause}
use Rattle.tilt_base.specs.declared.limits.TheConstants.{T}
use Rattle.tilt_fix.proofs.Changes.{passed_is}
use Rattle.tilt_stream.specs.Snap.{Snapshot}
use Rattle.tilt_fix.proofs.change.passed.Goals as goal

pub returns-clause-number : goal.returns-clause-number
returns-clause-number c =
    passed_is (neg_ℤ T) T c.args.rows.now c.args.tick c.partition_point.result c.requires c.partition_point.ensures.bound
    (λ parted. IsPartitionPoint-from_clause (λ (s : Snapshot). int_le s.end c.args.tick) _ _ c.partition_point.ensures.partitioned parted (λ a r q k. search rules))
