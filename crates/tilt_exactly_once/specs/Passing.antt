-- A feed that is read again from one of its bytes, up to what is committed of it (our own rule).
use Rattle.std.specs.Prelude.{◌≡◌, ◌<◌, ◌≤◌, ◌-◌, ⊤, ℕ, true, List, ◌++◌, length}
use Rattle.tilt_exactly_once.specs.Last.{EndsAs}
use Rattle.tilt_exactly_once.specs.declared.halt.Halt.{Halt}
use Rattle.tilt_exactly_once.specs.declared.halt.Halt.TheVariants as halt
use Rattle.tilt_outside.specs.Counts.{added_count}
use Rattle.tilt_port.specs.Transcript.{Transcript}

-- so many bytes more were read, of which this is so, and nothing was written
pub record HasPassed (count : ℕ) (Of : List ℕ → Type 0) (old new : Transcript) : Type 0 where
  pub passed : List ℕ
  pub read : new.read ≡ old.read ++ passed
  pub all : length passed ≡ count
  pub so : Of passed
  pub unwritten : new.written ≡ old.written

-- the feed ended before so many bytes more
pub record IsEndedShort (count : ℕ) (old new : Transcript) : Type 0 where
  pub passed : List ℕ
  pub read : new.read ≡ old.read ++ passed
  pub short : length passed < count
  pub ended : new.ended ≡ true
  pub unwritten : new.written ≡ old.written

-- what can halt this
abbrev pub IsPassingHalt : Halt → Type 0
IsPassingHalt halt.Short = ⊤
IsPassingHalt halt.ReadFault = ⊤
IsPassingHalt halt.OutOfMemory = ⊤
IsPassingHalt halt.Changed = ⊥
IsPassingHalt halt.Gap = ⊥
IsPassingHalt halt.BadLine = ⊥
IsPassingHalt halt.TooLong = ⊥
IsPassingHalt halt.Failed = ⊥

-- how many bytes come before those that aren't committed, if these bytes are, and the feed is read from that byte on
abbrev pub count_passed : ℕ → List ℕ → ℕ
count_passed from bytes = added_count 0 (length bytes) - from

-- that byte isn't after them
abbrev pub IsReached : ℕ → List ℕ → Type 0
IsReached from bytes = from ≤ added_count 0 (length bytes)

-- these bytes are committed, and the feed is read from that byte on: what comes before the others was read, and ends as they do
abbrev pub HasPassedOver : ℕ → List ℕ → Transcript → Transcript → Type 0
HasPassedOver from bytes old new = HasPassed (count_passed from bytes) (λ passed. EndsAs passed bytes) old new

-- it was read, and ends in another way
abbrev pub HasPassedOthers : ℕ → List ℕ → Transcript → Transcript → Type 0
HasPassedOthers from bytes old new = HasPassed (count_passed from bytes) (λ passed. ¬ EndsAs passed bytes) old new

-- why the bytes that are committed weren't passed over, if the feed is read from that byte on. It comes after them, so that bytes are
-- missing between. Or the feed ended before their end, or its last bytes there are others. Or a read failed, or there was no memory
module _ (port_tells : Type 0) (from : ℕ) (bytes : List ℕ) (old new : Transcript) where
  abbrev pub IsUnpassed : Halt → Type 0
  IsUnpassed halt.Gap = (added_count 0 (length bytes) < from) × (new ≡ old)
  IsUnpassed halt.Short = IsReached from bytes × (port_tells → IsEndedShort (count_passed from bytes) old new)
  IsUnpassed halt.Changed = IsReached from bytes × (port_tells → HasPassedOthers from bytes old new)
  IsUnpassed halt.ReadFault = ⊤
  IsUnpassed halt.OutOfMemory = ⊤
  IsUnpassed halt.BadLine = ⊥
  IsUnpassed halt.TooLong = ⊥
  IsUnpassed halt.Failed = ⊥
