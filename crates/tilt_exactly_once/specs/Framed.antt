-- States of a machine with the last bytes that it took (our own rule).
use Rattle.std.specs.Prelude.{◌≡◌, ◌⊎◌, ℕ, if◌then◌else◌, nat_le, List, ◌++◌, drop, length, take, Option, None, Some}
use Rattle.tilt_exactly_once.specs.Last.{last_of}
use Rattle.tilt_exactly_once.specs.declared.framed_machine.FramedMachine.{FramedMachine}
use Rattle.tilt_exactly_once.specs.declared.refusal.Refusal.{Refusal}
use Rattle.tilt_exactly_once.specs.declared.refusal.Refusal.TheVariants as refusal
use Rattle.tilt_store.specs.Commit.{Commit, counted, uncounted}
use Rattle.tilt_text.specs.Step.{◌>>=◌}

-- the last bytes that were taken, behind a line with how many they are, and the machine's text
abbrev pub framed : List ℕ → List ℕ → List ℕ
framed last text = counted (length last) (last ++ text)

-- so many bytes, and those behind them
abbrev pub split_at : ℕ × List ℕ → Option (List ℕ × List ℕ)
split_at parts = if nat_le parts.0 (length parts.1) then Some (take parts.0 parts.1, drop parts.0 parts.1) else None

-- the last bytes and the machine's text that a state spells
abbrev pub unframed : List ℕ → Option (List ℕ × List ℕ)
unframed state = uncounted state >>= split_at

-- it is the commit of these bytes: that of the machine, whose text is behind their last ones
pub record IsFramed (Is : List ℕ → Commit → Type 0) (bytes : List ℕ) (commit : Commit) : Type 0 where
  pub text : List ℕ
  pub is : Is bytes (record { output = commit.output; state = text })
  pub state_is : commit.state ≡ framed (last_of bytes) text

-- the same of what a machine is of
abbrev pub frames : {Of : Type 0} → (Of → List ℕ → Commit → Type 0) → Of → List ℕ → Commit → Type 0
frames commits of = IsFramed (commits of)

-- the machine took these bytes, and the last of them are kept
pub record KeepsLast {M Of : Type 0} (is : M → Of → List ℕ → Type 0) (machine : FramedMachine M) (of : Of) (bytes : List ℕ) : Type 0 where
  pub machine_is : is machine.machine of bytes
  pub last : machine.last.items ≡ last_of bytes

-- why a state is rejected: it has no such frame, the machine rejects its text, or there is no memory
abbrev pub rejects_parts : (List ℕ → Refusal → Type 0) → Refusal → Option (List ℕ × List ℕ) → Type 0
rejects_parts rejects why None = why ≡ refusal.NotAState
rejects_parts rejects why (Some parts) = rejects parts.1 why ⊎ (why ≡ refusal.OutOfMemory)

abbrev pub rejects_framed : (List ℕ → Refusal → Type 0) → List ℕ → Refusal → Type 0
rejects_framed rejects state why = rejects_parts rejects why (unframed state)
