use Rattle.std.proofs.Common.{neg_ℤ, sym}
use Rattle.tilt_base.specs.declared.limits.TheConstants.{T}
use Rattle.tilt_session.proofs.Parts.{take-order, early-end}
use Rattle.tilt_session.proofs.part.all_early.Goals as goal

pub returns-in-Some-clause-in_order : goal.returns-in-Some-clause-in_order
returns-in-Some-clause-in_order c = take-order c.started_before.result (neg_ℤ T) T c.args.rows.now c.requires

pub returns-in-None-clause-rows : goal.returns-in-None-clause-rows
returns-in-None-clause-rows c = rw c.in-None.is (sym (early-end c.args.rows.now))
