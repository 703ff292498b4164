-- What serving a feed into a folder leaves, from opening the folder on (our own rule).
use Rattle.std.specs.Prelude.{◌≡◌, ⊤, ℕ, List, Result, Ok, Err, IfErr}
use Rattle.tilt_exactly_once.specs.Committed.{Holds}
use Rattle.tilt_exactly_once.specs.Opening.{IsCause, IsFault, IsPassing}
use Rattle.tilt_exactly_once.specs.Passing.{HasPassedOver, IsReached, IsUnpassed}
use Rattle.tilt_exactly_once.specs.Serving.{HasServed, IsServingHalt}
use Rattle.tilt_exactly_once.specs.declared.failure.Failure.{Failure}
use Rattle.tilt_exactly_once.specs.declared.failure.Failure.TheVariants.{Halted, Unstarted}
use Rattle.tilt_exactly_once.specs.declared.halt.Halt.{Halt}
use Rattle.tilt_exactly_once.specs.declared.halt.Halt.TheVariants as halt
use Rattle.tilt_exactly_once.specs.declared.refusal.Refusal.{Refusal}
use Rattle.tilt_exactly_once.specs.declared.refusal.StartError.{StartError}
use Rattle.tilt_port.specs.Transcript.{Transcript}
use Rattle.tilt_store.specs.Commit.{Commit}
use Rattle.tilt_store.specs.Crash.{LeavesOnly}
use Rattle.tilt_store.specs.Kept.{Kept}

-- how a feed ended that was begun
abbrev pub failing : Result (Unit {0}) Halt → Result (Unit {0}) Failure
failing (Ok u) = Ok u
failing (Err why) = Err (Halted why)

-- why nothing was read of it, if nothing was
abbrev pub IsFailureCause : (List ℕ → Refusal → Type 0) → Kept → Failure → Type 0
IsFailureCause rejects was (Unstarted error) = IsCause rejects was error
IsFailureCause rejects was (Halted why) = ⊤

-- a file of the folder couldn't be read or written
abbrev pub IsFailureFault : Failure → Type 0
IsFailureFault (Unstarted error) = IsFault error
IsFailureFault (Halted why) = why ≡ halt.Failed

-- The meanings of a folder and of a machine, and what the machine is of.
module _ {F M Of : Type 0} (seen : F → Kept) (may_leave : F → Kept → Type 0) (is : M → Of → List ℕ → Type 0) (output : Of → List ℕ → List ℕ) (of : Of)
    (commits : Of → List ℕ → Commit → Type 0) (stops fits : Of → List ℕ → Type 0) (moment : F → ℕ) (left_since : F → ℕ → Kept → Type 0)
    (port_tells : Type 0) (from : ℕ) (bytes : List ℕ) (first : F) (old : Transcript) (folder : F) (new : Transcript) where
  -- The feed is read from that byte on, and the folder had committed these bytes of it. Before more was taken, they were passed over; or
  -- they couldn't be, and the folder has what it had
  pub data HasServedFrom : Result (Unit {0}) Halt → Type 0 where
    unpassed : {why : Halt} → folder ≡ first → IsUnpassed port_tells from bytes old new why → HasServedFrom (Err why)
    passed : {end : Result (Unit {0}) Halt} (between : Transcript) → IsReached from bytes → (port_tells → HasPassedOver from bytes old between)
        → IfErr end IsServingHalt
        → HasServed seen may_leave is output of commits stops fits moment left_since port_tells first bytes between folder new end → HasServedFrom end

  -- The same from opening the folder on. If it can't be opened, nothing is read. Or what isn't committed of the feed isn't reached
  pub data HasServedFeed : Result (Unit {0}) Failure → Type 0 where
    unstarted : {error : StartError} → new ≡ old → IsPassing error → LeavesOnly moment left_since first folder (Holds (commits of) bytes)
        → HasServedFeed (Err (Unstarted error))
    unreached : {why : Halt} → IsUnpassed port_tells from bytes old new why → LeavesOnly moment left_since first folder (Holds (commits of) bytes)
        → HasServedFeed (Err (Halted why))
    served : {end : Result (Unit {0}) Halt} (between : Transcript) → IsReached from bytes → (port_tells → HasPassedOver from bytes old between)
        → IfErr end IsServingHalt
        → HasServed seen may_leave is output of commits stops fits moment left_since port_tells first bytes between folder new end
        → HasServedFeed (failing end)
