-- What opening a folder to serve a feed into it leaves.
use Rattle.std.specs.Prelude.{◌≡◌, ◌<◌, ◌⊎◌, ⊤, ℕ, List, [], length, Ok}
use Rattle.tilt_exactly_once.specs.Committed.{Holds, IsOf}
use Rattle.tilt_exactly_once.specs.Serving.{IsUnderway}
use Rattle.tilt_exactly_once.specs.declared.refusal.Refusal.{Refusal}
use Rattle.tilt_exactly_once.specs.declared.refusal.Refusal.TheVariants as refusal
use Rattle.tilt_exactly_once.specs.declared.refusal.StartError.{StartError}
use Rattle.tilt_exactly_once.specs.declared.refusal.StartError.TheVariants as start
use Rattle.tilt_store.specs.Commit.{Commit, committed, resumed}
use Rattle.tilt_store.specs.Crash.{LeavesOnly}
use Rattle.tilt_store.specs.Errors.{OpensNot}
use Rattle.tilt_store.specs.Kept.{Kept}
use Rattle.tilt_store.specs.Open.{HasCommitted}
use Rattle.tilt_store.specs.declared.folder_error.FolderError.TheVariants as folder
use Rattle.tilt_store.specs.declared.open_error.OpenError.TheVariants as opening

-- all of the output is committed with this state, and this is the commit of these bytes
pub record IsAt (Is : List ℕ → Commit → Type 0) (bytes : List ℕ) (now : Kept) (state : List ℕ) : Type 0 where
  pub is : IsOf Is bytes (record { output = now.output; state = state })
  pub committed : HasCommitted now.output state now

-- The meanings of a folder and of a machine, and what the machine is of.
module _ {F M Of : Type 0} (seen : F → Kept) (may_leave : F → Kept → Type 0) (is : M → Of → List ℕ → Type 0) (output : Of → List ℕ → List ℕ)
    (commits : Of → List ℕ → Commit → Type 0) (moment : F → ℕ) (left_since : F → ℕ → Kept → Type 0) (of : Of) where
  -- a feed goes on there after these bytes, which are committed; and each crash since the first moment leaves their commit
  pub record IsStarted (first folder : F) (machine : M) (written : ℕ) (bytes : List ℕ) : Type 0 where
    pub underway : IsUnderway seen may_leave is output of folder machine written bytes
    pub holds : Holds (commits of) bytes (seen folder)
    pub leaves : LeavesOnly moment left_since first folder (Holds (commits of) bytes)

-- why a folder that has committed so many bytes of output with this state isn't served into, as far as these are the cause
abbrev pub IsCauseIn : (List ℕ → Refusal → Type 0) → ℕ → List ℕ → StartError → Type 0
IsCauseIn rejects count state (start.Unopened error) = ⊥
IsCauseIn rejects count state (start.Unwritten error) = ⊤
IsCauseIn rejects count state start.OutOfMemory = ⊤
IsCauseIn rejects count state (start.Rejected why) = rejects state why
IsCauseIn rejects count state start.Stateless = (state ≡ []) × (0 < count)

-- why a folder isn't served into: it isn't opened, its state is rejected or missing, there is no memory, or a file can't be written
abbrev pub IsCause : (List ℕ → Refusal → Type 0) → Kept → StartError → Type 0
IsCause rejects was (start.Unopened error) = OpensNot (committed was) error
IsCause rejects was (start.Unwritten error) = ⊤
IsCause rejects was start.OutOfMemory = ⊤
IsCause rejects was (start.Rejected why) = (commit : Commit) × (resumed [] was ≡ Ok commit) × rejects commit.state why
IsCause rejects was start.Stateless = (commit : Commit) × (resumed [] was ≡ Ok commit) × (commit.state ≡ []) × (0 < length commit.output)

-- a file couldn't be read or written
abbrev pub IsFault : StartError → Type 0
IsFault (start.Unopened error) = error ≡ opening.Failed
IsFault (start.Unwritten error) = error ≡ folder.Failed
IsFault start.OutOfMemory = ⊥
IsFault (start.Rejected why) = ⊥
IsFault start.Stateless = ⊥

-- it is nothing of what the folder holds: memory ran out, or a file couldn't be read or written
abbrev pub IsPassing : StartError → Type 0
IsPassing (start.Unopened error) = (error ≡ opening.OutOfMemory) ⊎ (error ≡ opening.Failed)
IsPassing (start.Unwritten error) = ⊤
IsPassing start.OutOfMemory = ⊤
IsPassing (start.Rejected why) = why ≡ refusal.OutOfMemory
IsPassing start.Stateless = ⊥
