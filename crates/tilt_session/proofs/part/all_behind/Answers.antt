use Rattle.std.proofs.Common.{neg_ℤ, length, drop, ◌-◌}
use Rattle.tilt_base.specs.declared.limits.TheConstants.{T}
use Rattle.tilt_session.proofs.Parts.{take-order, drop-rows}
use Rattle.tilt_session.proofs.part.all_behind.Goals as goal

pub returns-clause-in_order : goal.returns-clause-in_order
returns-clause-in_order c =
    let n = c.started_before.result in
    let rows = c.args.rows.now in
    take-order (length rows - n) (neg_ℤ T) T (drop n rows) (drop-rows n rows c.requires)
