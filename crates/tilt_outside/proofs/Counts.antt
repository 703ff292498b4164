-- Counts that stop at the end of 64 bits.
use Rattle.std.proofs.Common.{◌≡◌, ℕ, ◌+◌, arith}
use Rattle.tilt_outside.specs.Counts.{added_count}

-- one rise and then another is the rise by both
pub added-twice : (before m n : ℕ) → added_count (added_count before m) n ≡ added_count before (m + n)
added-twice before m n = omega arith
