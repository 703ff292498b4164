-- One step more of serving a feed.
use Rattle.std.proofs.Common.{◌≡◌, ◌⊎◌, ℕ, List, [], ◌++◌, take, Ok, refl, sym, ◌∙◌, ap, subst, append_assoc, append-nil}
use Rattle.tilt_exactly_once.specs.Committed.{Holds, HoldsFront}
use Rattle.tilt_exactly_once.specs.Halts.{of_stop}
use Rattle.tilt_exactly_once.specs.Serving.{IsUnderway}
use Rattle.tilt_exactly_once.specs.declared.halt.Halt.TheVariants as halt
use Rattle.tilt_exactly_once.specs.declared.halt.Stop.{Stop}
use Rattle.tilt_exactly_once.specs.declared.halt.Stop.TheVariants as stop
use Rattle.tilt_exactly_once.proofs.Moments.{leaves-none, leaves-then, leaves-wider}
use Rattle.tilt_exactly_once.proofs.Steps.{front-either, front-more, front-none, front-same}
use Rattle.tilt_port.specs.Transcript.{HasRead, Transcript}
use Rattle.tilt_store.specs.Commit.{Commit}
use Rattle.tilt_store.specs.Crash.{LeavesOnly}
use Rattle.tilt_store.specs.Kept.{Kept}
use Rattle.tilt_store.specs.Open.{IsOpen, SameCommit}

-- what a stop of the machine is to the feed
pub stop-bad : (why : Stop) → of_stop why ≡ halt.BadLine → why ≡ stop.BadLine
stop-bad stop.BadLine e = refl
stop-bad stop.TooLong e = absurd (cc e)
stop-bad stop.OutOfMemory e = absurd (cc e)

pub stop-long : (why : Stop) → of_stop why ≡ halt.TooLong → why ≡ stop.TooLong
stop-long stop.BadLine e = absurd (cc e)
stop-long stop.TooLong e = refl
stop-long stop.OutOfMemory e = absurd (cc e)

-- at the end nothing was read
pub read-end : (old new : Transcript) (room : List ℕ) → HasRead old new room (Ok 0) → new.read ≡ old.read
read-end old new room read = read.piece ∙ append-nil old.read

-- a piece more was read
pub read-more : (old mid new : Transcript) (room read : List ℕ) (n : ℕ) → mid.read ≡ old.read ++ read → HasRead mid new room (Ok n) → new.read ≡ old.read ++ (read ++ take n room)
read-more old mid new room read n was more = more.piece ∙ (ap (λ (l : List ℕ). l ++ take n room) was ∙ append_assoc old.read read (take n room))

-- The meanings of a folder, and which commits are those of bytes.
module _ {F : Type 0} (seen : F → Kept) (moment : F → ℕ) (left_since : F → ℕ → Kept → Type 0) (Is : List ℕ → Commit → Type 0) (first folder later : F) (start read : List ℕ) where
  -- a commit, or none
  pub leaves-on : HoldsFront Is start read (seen folder) → LeavesOnly moment left_since first folder (HoldsFront Is start read)
      → LeavesOnly moment left_since folder later (λ (c : Kept). SameCommit (seen folder) c ⊎ Holds Is (start ++ read) c)
      → LeavesOnly moment left_since first later (HoldsFront Is start read)
  leaves-on held so_far step =
      leaves-then moment left_since first folder later (HoldsFront Is start read) so_far
      (leaves-wider moment left_since folder later (λ (c : Kept). SameCommit (seen folder) c ⊎ Holds Is (start ++ read) c) (HoldsFront Is start read)
      (λ c either. front-either Is start read (seen folder) c held either) step)

  -- a piece was read and taken, and nothing was committed
  pub leaves-taken : (more : List ℕ) → HoldsFront Is start read (seen folder) → LeavesOnly moment left_since first folder (HoldsFront Is start read)
      → LeavesOnly moment left_since folder later (SameCommit (seen folder))
      → LeavesOnly moment left_since first later (HoldsFront Is start (read ++ more))
  leaves-taken more held so_far step =
      leaves-wider moment left_since first later (HoldsFront Is start read) (HoldsFront Is start (read ++ more)) (λ c front. front-more Is start read more c front)
      (leaves-then moment left_since first folder later (HoldsFront Is start read) so_far
      (leaves-wider moment left_since folder later (SameCommit (seen folder)) (HoldsFront Is start read) (λ c same. front-same Is start read (seen folder) c held same) step))

-- the same bytes, put together in another way
pub underway-same : {F M Of : Type 0} (seen : F → Kept) (may_leave : F → Kept → Type 0) (is : M → Of → List ℕ → Type 0) (output : Of → List ℕ → List ℕ) (of : Of)
    (folder : F) (machine : M) (written : ℕ) (start read more : List ℕ) → IsUnderway seen may_leave is output of folder machine written ((start ++ read) ++ more)
    → IsUnderway seen may_leave is output of folder machine written (start ++ (read ++ more))
underway-same seen may_leave is output of folder machine written start read more underway =
    subst (λ (l : List ℕ). IsUnderway seen may_leave is output of folder machine written l) (append_assoc start read more) underway

-- before anything is read
pub leaves-first : {F : Type 0} (seen : F → Kept) (may_leave : F → Kept → Type 0) (moment : F → ℕ) (left_since : F → ℕ → Kept → Type 0) (Is : List ℕ → Commit → Type 0)
    (folder : F) (start : List ℕ) → IsOpen (seen folder) (may_leave folder) → ((c : Kept) → left_since folder (moment folder) c → may_leave folder c)
    → Holds Is start (seen folder) → LeavesOnly moment left_since folder folder (HoldsFront Is start [])
leaves-first seen may_leave moment left_since Is folder start ready only_now holds =
    leaves-none moment left_since folder (HoldsFront Is start [])
    (λ c left. front-same Is start [] (seen folder) c (front-none Is start (seen folder) holds) (ready.left c (only_now c left) ∙ sym ready.there))
