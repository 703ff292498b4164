-- What writes leave of the output and of the watchers.
use Rattle.std.specs.Prelude.{◌≡◌, ℕ, ℤ, Bool, List, Vec}
use Rattle.std.specs.declared.alloc.Global.{Global}
use Rattle.tilt_stream.specs.Snap.{Snapshot}
use Rattle.tilt_watch.specs.Watch.{Watch, watches}

-- Of the output: whether it shows what was written, and what was written before and after. Of the watchers: whether they are as they were,
-- and what they were before and are now.
pub record Left : Type 1 where
  pub tells : Type 0
  pub old : List ℕ
  pub new : List ℕ
  pub kept : Type 0
  pub before : List Watch
  pub now : List Watch

-- of an output of these meanings, before and after, and of watchers with these figures, steps and ends
abbrev pub left_of : {K W : Type 0} → Type 0 → (K → List ℕ) → K → K → (W → ℤ × ℤ) → (W → ℤ × ℤ → Snapshot → ℤ × ℤ)
    → (W → ℤ × ℤ → Bool) → Vec W Global → Vec W Global → Left
left_of tells written old new pair step ends before now = record {
  tells = tells;
  old = written old;
  new = written new;
  kept = now ≡ before;
  before = watches pair step ends before.items;
  now = watches pair step ends now.items;
}
