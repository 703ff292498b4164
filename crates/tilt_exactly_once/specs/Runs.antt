-- Programs that serve one feed into a folder, one after another (our own rule).
use Rattle.std.specs.Prelude.{◌≡◌, ⊤, ℕ, List, [], ◌∷◌, ◌++◌, drop}
use Rattle.tilt_exactly_once.specs.Committed.{Holds, HoldsFront}
use Rattle.tilt_port.specs.Transcript.{Transcript}
use Rattle.tilt_store.specs.Commit.{Commit}
use Rattle.tilt_store.specs.Kept.{Kept}

-- Which commits are those of bytes of a feed, and the feed.
module _ (Is : List ℕ → Commit → Type 0) (feed : List ℕ) where
  -- a run that was killed, or that ended: it reads the feed from behind what is committed, and leaves the commit of a front of what it read
  abbrev pub IsRun : Kept → Kept → Type 0
  IsRun old new =
      (bytes rest : List ℕ) → Holds Is bytes old → feed ≡ bytes ++ rest
      → (read : List ℕ) × (more : List ℕ) × (rest ≡ read ++ more) × HoldsFront Is bytes read new

  -- what each of some runs has left, the first one first
  abbrev pub AreRuns : Kept → List Kept → Type 0
  AreRuns old [] = ⊤
  AreRuns old (new ∷ later) = IsRun old new × AreRuns new later

  -- a front of the feed is committed
  pub record HoldsPart (kept : Kept) : Type 0 where
    pub bytes : List ℕ
    pub rest : List ℕ
    pub parts : feed ≡ bytes ++ rest
    pub holds : Holds Is bytes kept

-- what the last of some runs has left
abbrev pub last_left : Kept → List Kept → Kept
last_left old [] = old
last_left old (new ∷ later) = last_left new later

-- what was read between two moments are the bytes of a feed from that byte on, up to where more come
pub record GivesFrom (feed : List ℕ) (from : ℕ) (more : List ℕ) (old new : Transcript) : Type 0 where
  pub read : List ℕ
  pub is_read : new.read ≡ old.read ++ read
  pub given : drop from feed ≡ read ++ more

-- a folder in which nothing is
abbrev pub no_files : Kept
no_files = record { output = []; state = [] }
