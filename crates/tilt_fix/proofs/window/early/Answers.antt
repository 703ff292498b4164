use Rattle.std.proofs.Common.{neg_ℤ, rules}
use Rattle.std.proofs.lemmas.List.Sorted.{IsPartitionPoint-from_clause}
use Rattle.tilt_base.specs.declared.limits.TheConstants.{T}
use Rattle.tilt_fix.proofs.Searched.{StartsBefore, early-found, starts-parted}
use Rattle.tilt_fix.proofs.window.early.Goals as goal

pub returns : goal.returns
returns c =
    let parted = starts-parted (neg_ℤ T) T c.args.rows.now c.args.tick c.requires in
    let point = IsPartitionPoint-from_clause (StartsBefore c.args.tick) _ _ c.partition_point.ensures.partitioned parted (λ a r q k. search rules) in
    early-found c.args.rows.now c.args.tick c.partition_point.result c.partition_point.ensures.bound point
