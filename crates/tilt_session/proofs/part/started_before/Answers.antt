use Rattle.std.proofs.Common.{int_lt, neg_ℤ, rules, take, drop, ap, ◌∙◌, ℕ}
use Rattle.std.proofs.lemmas.List.Sorted.{IsPartitionPoint-from_clause}
use Rattle.tilt_base.specs.declared.limits.TheConstants.{T}
use Rattle.tilt_stream.specs.Snap.{Snapshot}
use Rattle.tilt_session.proofs.Counted.{starts-parted, starts-counted, take-early, drop-early}
use Rattle.tilt_session.proofs.part.started_before.Goals as goal

pub returns-clause-front : goal.returns-clause-front
returns-clause-front c =
    let parted = starts-parted (neg_ℤ T) T c.args.rows.now c.args.cut c.requires in
    let point = IsPartitionPoint-from_clause (λ (r : Snapshot). int_lt r.start c.args.cut) _ _ c.partition_point.ensures.partitioned parted (λ a r q k. search rules) in
    let many = starts-counted _ c.args.cut _ c.partition_point.ensures.bound point in
    ap (λ (n : ℕ). take n c.args.rows.now) many ∙ take-early c.args.cut c.args.rows.now

pub returns-clause-rest : goal.returns-clause-rest
returns-clause-rest c =
    let parted = starts-parted (neg_ℤ T) T c.args.rows.now c.args.cut c.requires in
    let point = IsPartitionPoint-from_clause (λ (r : Snapshot). int_lt r.start c.args.cut) _ _ c.partition_point.ensures.partitioned parted (λ a r q k. search rules) in
    let many = starts-counted _ c.args.cut _ c.partition_point.ensures.bound point in
    ap (λ (n : ℕ). drop n c.args.rows.now) many ∙ drop-early c.args.cut c.args.rows.now
