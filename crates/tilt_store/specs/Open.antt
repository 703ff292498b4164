-- A folder that is open for appending.
use Rattle.std.specs.Prelude.{◌≡◌, ℕ, List, ◌++◌, length, Some, Ok, IsErr}
use Rattle.tilt_store.specs.Commit.{Commit, committed, resumed, spelled}
use Rattle.tilt_store.specs.Crash.{Only}
use Rattle.tilt_store.specs.Kept.{Kept}

-- a commit is there, and each crash leaves the same
pub record IsOpen (seen : Kept) (may_leave : Kept → Type 0) : Type 0 where
  pub commit : Commit
  pub there : committed seen ≡ Ok (Some commit)
  pub left : (c : Kept) → may_leave c → committed c ≡ Ok (Some commit)

-- the last commit is the same
abbrev pub SameCommit : Kept → Kept → Type 0
SameCommit old c = committed c ≡ committed old

-- the last commit is this output with this state
abbrev pub HasCommitted : List ℕ → List ℕ → Kept → Type 0
HasCommitted output state c = committed c ≡ Ok (Some (record { output = output; state = state }))

-- bytes were appended, and the last commit is the same
pub record IsAppended (bytes : List ℕ) (old new : Kept) : Type 0 where
  pub appended : new ≡ record old { output = old.output ++ bytes }
  pub same : SameCommit old new

-- all of the output was committed with a state, which counts it
pub record IsCommitted (state : List ℕ) (old new : Kept) : Type 0 where
  pub written : new ≡ record old { state = spelled (length old.output) state }
  pub committed : HasCommitted old.output state new

-- all that is seen is durable, and it holds a commit
pub record IsSettled (seen : Kept) (may_leave : Kept → Type 0) : Type 0 where
  pub durable : Only seen may_leave
  pub is_open : IsOpen seen may_leave

-- the state to go on from and the output are those of the commit that the folder held, and they are committed
pub record IsReopened (initial : List ℕ) (was now : Kept) (state : List ℕ) : Type 0 where
  pub same : resumed initial was ≡ Ok (record { output = now.output; state = state })
  pub committed : HasCommitted now.output state now

-- a start goes on from the same; and if the folder held no commit, nothing in it has changed
pub record OpensSame (initial : List ℕ) (old c : Kept) : Type 0 where
  pub same : resumed initial c ≡ resumed initial old
  pub untouched : IsErr (committed old) → c ≡ old
