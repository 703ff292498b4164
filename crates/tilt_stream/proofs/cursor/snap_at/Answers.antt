use Rattle.std.proofs.Common.{neg_ℤ}
use Rattle.tilt_base.specs.declared.limits.TheConstants.{WIDE}
use Rattle.tilt_stream.proofs.Places.{read-within}
use Rattle.tilt_stream.proofs.cursor.snap_at.Goals as goal

pub returns-clause-low : goal.returns-clause-low
returns-clause-low g c = (read-within (neg_ℤ WIDE) WIDE _ c.args.place _ c.at.ensures.in_order c.at.ensures.snap).0

pub returns-clause-high : goal.returns-clause-high
returns-clause-high g c = (read-within (neg_ℤ WIDE) WIDE _ c.args.place _ c.at.ensures.in_order c.at.ensures.snap).1
