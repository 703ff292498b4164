-- Offsets of readings, in ticks.
use Rattle.std.specs.Prelude.{ℤ, neg_ℤ, ◌≤ℤ◌}
use Rattle.tilt_base.specs.declared.limits.TheConstants.{OFFSET}

-- the offset of a reading, or an end of a window, that a loop may have
abbrev pub IsOffset : ℤ → Type 0
IsOffset offset = (neg_ℤ OFFSET ≤ℤ offset) × (offset ≤ℤ OFFSET)
