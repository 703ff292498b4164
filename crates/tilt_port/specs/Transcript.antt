-- What was read and written through a port.
use Rattle.std.specs.Prelude.{◌≡◌, ◌==◌, ℕ, Bool, List, [], ◌∷◌, ◌++◌, take, Result, MatchResult, OnOk, OnErr}
use Rattle.tilt_outside.specs.Faults.{HasCause}
use Rattle.tilt_outside.specs.Written.{AppendsFront}
use Rattle.tilt_outside.specs.declared.failed.Failed.{Failed}

-- a moment at which more was read: what had been read and written before it, and how many of the written bytes weren't handed on
pub record Moment : Type 0 where
  pub read : List ℕ
  pub written : List ℕ
  pub held_back : ℕ

-- what was read and written so far, and how many of the written bytes aren't handed on. The moments at which more was read or the end was
-- found, and whether the last read found the end. How often a read, and how often a write or a flush, has failed
pub record Transcript : Type 0 where
  pub read : List ℕ
  pub written : List ℕ
  pub held_back : ℕ
  pub asked : List Moment
  pub ended : Bool
  pub read_faults : ℕ
  pub write_faults : ℕ

-- this moment
abbrev pub moment_of : Transcript → Moment
moment_of t = record { read = t.read; written = t.written; held_back = t.held_back }

-- a read: the first bytes of the room were read, at this moment, and nothing was written. A read that fails reads nothing, at no moment
pub record HasRead (old new : Transcript) (room : List ℕ) (result : Result ℕ Failed) : Type 0 where
  pub asked : MatchResult result (λ _. new.asked ≡ old.asked ++ moment_of old ∷ []) (λ _. new.asked ≡ old.asked)
  pub piece : MatchResult result (λ n. new.read ≡ old.read ++ take n room) (λ _. new.read ≡ old.read)
  pub ended : MatchResult result (λ n. new.ended ≡ (n == 0)) (λ _. new.ended ≡ old.ended)
  pub written : new.written ≡ old.written
  pub held_back : new.held_back ≡ old.held_back

-- nothing was read
pub record ReadsNothing (old new : Transcript) : Type 0 where
  pub read : new.read ≡ old.read
  pub asked : new.asked ≡ old.asked
  pub ended : new.ended ≡ old.ended

-- nothing was read or written
pub record Keeps (old new : Transcript) : Type 0 where
  pub reads_nothing : ReadsNothing old new
  pub written : new.written ≡ old.written

-- bytes were written: all of them, or a prefix of them if a write failed; and nothing was read
pub record Writes (tells : Type 0) (old new : Transcript) (bytes : List ℕ) (result : Result (Unit {0}) Failed) : Type 0 where
  pub whole : tells → OnOk result (new.written ≡ old.written ++ bytes)
  pub front : tells → OnErr result (AppendsFront old.written new.written bytes)
  pub reads_nothing : tells → ReadsNothing old new
  pub cause : HasCause old.write_faults new.write_faults result
  pub reads : new.read_faults ≡ old.read_faults
