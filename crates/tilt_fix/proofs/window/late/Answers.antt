use Rattle.std.proofs.Common.{neg_ℤ, int_lt, rules, ◌∙◌}
use Rattle.std.proofs.lemmas.List.Sorted.{IsPartitionPoint-from_clause}
use Rattle.std.proofs.lemmas.List.{take_rest}
use Rattle.tilt_base.specs.declared.limits.TheConstants.{T}
use Rattle.tilt_fix.proofs.Searched.{EndsBy, ends-parted, late-found}
use Rattle.tilt_fix.proofs.Windows.{InOrder-filter}
use Rattle.tilt_fix.proofs.window.late.Goals as goal

pub returns-clause-rows : goal.returns-clause-rows
returns-clause-rows c =
    let parted = ends-parted (neg_ℤ T) T c.args.rows.now c.args.tick c.requires in
    let point = IsPartitionPoint-from_clause (EndsBy c.args.tick) _ _ c.partition_point.ensures.partitioned parted (λ a r q k. search rules) in
    take_rest c.args.rows.now c.partition_point.result ∙ late-found c.args.rows.now c.args.tick c.partition_point.result c.partition_point.ensures.bound point

pub returns-clause-in_order : goal.returns-clause-in_order
returns-clause-in_order c =
    rw (returns-clause-rows c) (InOrder-filter (λ row. int_lt c.args.tick row.end) (neg_ℤ T) T c.args.rows.now c.requires)
