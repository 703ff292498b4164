-- Runs of a program with crashes, and what they leave.
use Rattle.std.specs.Prelude.{◌≡◌, ℕ, Bool, true, false, if◌then◌else◌, List, [], ◌∷◌, ◌++◌, Option, Some, None, Ok}
use Rattle.tilt_store.specs.Commit.{resumed}
use Rattle.tilt_store.specs.Kept.{Kept}
use Rattle.tilt_store.specs.Open.{HasCommitted, IsAppended, IsCommitted, IsReopened, SameCommit}

-- what can happen: bytes are appended, a commit of a state returns, or the program crashes and opens the folder again. During a commit,
-- the crash says whether the commit took effect, and with which state
pub data Event : Type 0 where
  Append : (bytes : List ℕ) → Event
  Commit_returns : (state : List ℕ) → Event
  Crash : (took_effect : Option (List ℕ)) → Event

-- what a crash left
abbrev pub IsLeft : Option (List ℕ) → Kept → Kept → Type 0
IsLeft None old c = SameCommit old c
IsLeft (Some state) old c = HasCommitted old.output state c

-- the folder before and after an event, as the clauses of the calls say it. While the folder is opened after a crash, it can crash too,
-- any number of times
abbrev pub Happens : List ℕ → Event → Kept → Kept → Type 0
Happens initial (Append bytes) old new = IsAppended bytes old new
Happens initial (Commit_returns state) old new = IsCommitted state old new
Happens initial (Crash took_effect) old new =
    (c : Kept) × (d : Kept) × IsLeft took_effect old c × (resumed initial d ≡ resumed initial c)
    × (state : List ℕ) × IsReopened initial d new state

-- a run
abbrev pub Run : List ℕ → List Event → Kept → Kept → Type 0
Run initial [] old new = new ≡ old
Run initial (event ∷ events) old new = (mid : Kept) × Happens initial event old mid × Run initial events mid new

-- whether a commit takes effect before the next crash is over
abbrev pub is_committed : List Event → Bool
is_committed [] = false
is_committed (Append bytes ∷ events) = is_committed events
is_committed (Commit_returns state ∷ events) = true
is_committed (Crash None ∷ events) = false
is_committed (Crash (Some state) ∷ events) = true

-- each piece that was appended and then committed, once and in order
abbrev pub committed_bytes : List Event → List ℕ
committed_bytes [] = []
committed_bytes (Append bytes ∷ events) = (if is_committed events then bytes else []) ++ committed_bytes events
committed_bytes (Commit_returns state ∷ events) = committed_bytes events
committed_bytes (Crash took_effect ∷ events) = committed_bytes events

-- the state of the last commit that took effect
abbrev pub last_state : List ℕ → List Event → List ℕ
last_state state [] = state
last_state state (Append bytes ∷ events) = last_state state events
last_state state (Commit_returns next ∷ events) = last_state next events
last_state state (Crash None ∷ events) = last_state state events
last_state state (Crash (Some next) ∷ events) = last_state next events

-- a folder was opened, a run followed, and the folder holds what was there at first with each committed piece once, and the last
-- commit's state. Whatever a crash leaves of it then, a start goes on from just this
abbrev pub ExactlyOnce : List ℕ → Kept → List Event → Type 0
ExactlyOnce initial first events =
    (state : List ℕ) (start end c : Kept) → IsReopened initial first start state → Run initial events start end → SameCommit end c
    → resumed initial c ≡ Ok (record { output = start.output ++ committed_bytes events; state = last_state state events })

-- the same if the folder was empty at first
abbrev pub ExactlyOnceFromNothing : List ℕ → List Event → Type 0
ExactlyOnceFromNothing initial events =
    (state : List ℕ) (start end c : Kept) → IsReopened initial (record { output = []; state = [] }) start state
    → Run initial events start end → SameCommit end c
    → resumed initial c ≡ Ok (record { output = committed_bytes events; state = last_state initial events })
