-- What serving a feed into a folder leaves of it.
use Rattle.std.specs.Prelude.{◌≡◌, ⊤, ℕ, true, List, ◌++◌, length, Result, Ok, Err, OnOk, IfErr}
use Rattle.tilt_exactly_once.specs.Committed.{Holds, HoldsFront}
use Rattle.tilt_exactly_once.specs.Recent.{HoldsBut}
use Rattle.tilt_exactly_once.specs.declared.halt.Halt.{Halt}
use Rattle.tilt_exactly_once.specs.declared.halt.Halt.TheVariants as halt
use Rattle.tilt_exactly_once.specs.declared.keeper.Progress.{Progress}
use Rattle.tilt_exactly_once.specs.declared.keeper.Progress.TheVariants.{Ended, More}
use Rattle.tilt_outside.specs.Counts.{added_count}
use Rattle.tilt_port.specs.Transcript.{Transcript}
use Rattle.tilt_store.specs.Commit.{Commit}
use Rattle.tilt_store.specs.Crash.{LeavesOnly}
use Rattle.tilt_store.specs.Kept.{Kept}
use Rattle.tilt_store.specs.Open.{IsOpen, IsSettled}

-- what can halt this
abbrev pub IsServingHalt : Halt → Type 0
IsServingHalt halt.BadLine = ⊤
IsServingHalt halt.TooLong = ⊤
IsServingHalt halt.OutOfMemory = ⊤
IsServingHalt halt.ReadFault = ⊤
IsServingHalt halt.Failed = ⊤
IsServingHalt halt.Gap = ⊥
IsServingHalt halt.Short = ⊥
IsServingHalt halt.Changed = ⊥

-- The meanings of a folder and of a machine, and what the machine is of.
module _ {F M Of : Type 0} (seen : F → Kept) (may_leave : F → Kept → Type 0) (is : M → Of → List ℕ → Type 0) (output : Of → List ℕ → List ℕ) (of : Of) where
  -- the machine took these bytes, and all output for them is in the open folder
  pub record IsUnderway (folder : F) (machine : M) (written : ℕ) (bytes : List ℕ) : Type 0 where
    pub machine_is : is machine of bytes
    pub is_open : IsOpen (seen folder) (may_leave folder)
    pub output_is : (seen folder).output ≡ output of bytes
    pub counted : written ≡ added_count 0 (length (seen folder).output)

  module _ (commits : Of → List ℕ → Commit → Type 0) (stops fits : Of → List ℕ → Type 0) (moment : F → ℕ) (left_since : F → ℕ → Kept → Type 0)
      (port_tells : Type 0) (first : F) (start : List ℕ) (old : Transcript) where
    -- bytes of the feed were read and taken, nothing was written to the port, and each crash since the first moment leaves the commit of a front of them
    pub record GoesOn (folder : F) (machine : M) (written lines : ℕ) (new : Transcript) : Type 0 where
      pub read : List ℕ
      pub from_port : port_tells → new.read ≡ old.read ++ read
      pub unwritten : port_tells → new.written ≡ old.written
      pub underway : IsUnderway folder machine written (start ++ read)
      pub held : HoldsFront (commits of) start read (seen folder)
      -- in those that aren't committed at most so many lines end
      pub recent : HoldsBut (commits of) (start ++ read) lines (seen folder)
      pub leaves : LeavesOnly moment left_since first folder (HoldsFront (commits of) start read)

    -- the feed was served, to its end or until something halted it
    pub record HasServed (folder : F) (new : Transcript) (result : Result (Unit {0}) Halt) : Type 0 where
      pub read : List ℕ
      pub from_port : port_tells → new.read ≡ old.read ++ read
      -- nothing was written to the port
      pub unwritten : port_tells → new.written ≡ old.written
      -- each crash at any moment leaves the commit of the bytes from before, and a front of those that were read
      pub leaves : LeavesOnly moment left_since first folder (HoldsFront (commits of) start read)
      -- if the feed ended, all that was read is committed, and each crash from then on leaves that
      pub whole : OnOk result (Holds (commits of) (start ++ read) (seen folder))
      pub settled : OnOk result (IsSettled (seen folder) (may_leave folder))
      pub ended : port_tells → OnOk result (new.ended ≡ true)
      -- a bad line or too long a feed has its cause
      pub badly : IfErr result (λ why. why ≡ halt.BadLine → stops of (start ++ read))
      pub long : IfErr result (λ why. why ≡ halt.TooLong → fits of (start ++ read) → ⊥)

    -- one step more
    abbrev pub HasStepped : F → M → ℕ → ℕ → Transcript → Result Progress Halt → Type 0
    HasStepped folder machine written lines new (Ok More) = GoesOn folder machine written lines new
    HasStepped folder machine written lines new (Ok Ended) = HasServed folder new (Ok tt)
    HasStepped folder machine written lines new (Err why) = HasServed folder new (Err why)
