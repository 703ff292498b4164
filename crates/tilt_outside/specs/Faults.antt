-- Counts of faults, which show that a failure was not made up.
use Rattle.std.specs.Prelude.{◌<◌, ◌≡◌, ◌⊎◌, ℕ, ◌≤◌, Result, OnErr}
use Rattle.tilt_outside.specs.Counts.{last_count}
use Rattle.tilt_outside.specs.declared.failed.Failed.{Failed}

-- a 64-bit count rose, or is at its end, where it can't rise
abbrev pub Rose : ℕ → ℕ → Type 0
Rose before after = (before < after) ⊎ (after ≡ last_count)

-- a count never falls, and a call fails only if it rose
pub record HasCause {T : Type 0} (before after : ℕ) (result : Result T Failed) : Type 0 where
  pub kept : before ≤ after
  pub rose : OnErr result (Rose before after)
