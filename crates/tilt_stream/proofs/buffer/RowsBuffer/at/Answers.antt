use Rattle.std.proofs.Common.{neg_ℤ, arith}
use Rattle.std.proofs.lemmas.Int.{ints}
use Rattle.tilt_base.specs.declared.limits.TheConstants.{T, WIDE}
use Rattle.tilt_stream.proofs.Places.{InOrder-wider}
use Rattle.tilt_stream.proofs.buffer.RowsBuffer.at.Goals as goal

pub returns-clause-in_order : goal.returns-clause-in_order
returns-clause-in_order c =
    InOrder-wider (neg_ℤ T) T (neg_ℤ WIDE) WIDE _ c.as_slice.ensures.in_order (omega (arith, ints)) (omega (arith, ints))
