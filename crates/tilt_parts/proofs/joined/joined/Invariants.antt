use Rattle.std.proofs.Common.{ℤ, drop}
use Rattle.tilt_parts.specs.Joined.{IsMidway}
use Rattle.tilt_stream.specs.Stream.{Stream}
use Rattle.tilt_parts.proofs.joined.joined.Given as goal

abbrev pub invariant-loop-part : goal.invariant-loop-part
invariant-loop-part l = (x : Stream) (lo hi : ℤ) → IsMidway x lo hi l.first l.later → IsMidway x lo hi l.list (drop l.part-index l.later)
