-- How much of what was taken a crash can cost (our own rule).
use Rattle.std.specs.Prelude.{◌≡◌, ◌≤◌, ◌+◌, ◌==◌, ℕ, if◌then◌else◌, List, [], ◌∷◌, ◌++◌}
use Rattle.tilt_exactly_once.specs.Committed.{Holds}
use Rattle.tilt_outside.specs.Counts.{added_count}
use Rattle.tilt_store.specs.Commit.{Commit}
use Rattle.tilt_store.specs.Kept.{Kept}

-- how many lines end in bytes
abbrev pub lines_in : List ℕ → ℕ
lines_in [] = 0
lines_in (byte ∷ bytes) = if byte == 10 then lines_in bytes + 1 else lines_in bytes

-- a start goes on from the commit of these bytes without their last part, in which at most so many lines end
pub record HoldsBut (Is : List ℕ → Commit → Type 0) (bytes : List ℕ) (lines : ℕ) (kept : Kept) : Type 0 where
  pub front : List ℕ
  pub rest : List ℕ
  pub parts : bytes ≡ front ++ rest
  pub few : added_count 0 (lines_in rest) ≤ lines
  pub holds : Holds Is front kept
