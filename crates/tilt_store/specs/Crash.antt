-- What crashes leave, at one moment and at each moment of a call.
use Rattle.std.specs.Prelude.{◌≡◌, ◌⊎◌, ℕ, ◌≤◌}
use Rattle.tilt_store.specs.Kept.{Kept}

-- each new outcome of a crash is an old outcome after a step
abbrev pub Follows : (Kept → Kept → Type 0) → (Kept → Type 0) → (Kept → Type 0) → Type 0
Follows step old new = (c : Kept) → new c → (d : Kept) × old d × step d c

-- there is no new outcome of a crash
abbrev pub NoMore : (Kept → Type 0) → (Kept → Type 0) → Type 0
NoMore old new = (c : Kept) → new c → old c

-- there is no new outcome of a crash but this
abbrev pub NoneBut : Kept → (Kept → Type 0) → (Kept → Type 0) → Type 0
NoneBut kept old new = (c : Kept) → new c → old c ⊎ (c ≡ kept)

-- a crash leaves this and nothing else
abbrev pub Only : Kept → (Kept → Type 0) → Type 0
Only kept outcomes = (c : Kept) → outcomes c → c ≡ kept

-- time goes on: a crash since t can have left what it could before, or what it can leave now
pub record Elapses (before now : ℕ) (past since : ℕ → Kept → Type 0) (may_leave : Kept → Type 0) : Type 0 where
  pub later : before ≤ now
  pub nothing_else : (t : ℕ) (c : Kept) → t ≤ before → since t c → past t c ⊎ may_leave c
  pub keeps : (t : ℕ) (c : Kept) → t ≤ before → past t c → since t c

-- a crash at any moment since old leaves a folder that has P
pub record LeavesOnly {F : Type 0} (moment : F → ℕ) (left_since : F → ℕ → Kept → Type 0) (old new : F) (P : Kept → Type 0) : Type 0 where
  pub later : moment old ≤ moment new
  pub each : (c : Kept) → left_since new (moment old) c → P c
  -- for a run that started earlier
  pub before : (t : ℕ) (c : Kept) → t ≤ moment old → left_since new t c → left_since old t c ⊎ P c
