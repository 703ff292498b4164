-- What serving a feed leaves, from opening its folder on.
use Rattle.std.proofs.Common.{◌≤◌, ⊎_elim, inl, inr, ℕ, List, [], Result, Ok, Err, IfErr, IsErrOf, sym, ap, subst, arith}
use Rattle.tilt_exactly_once.proofs.Moments.{leaves-then, leaves-wider}
use Rattle.tilt_exactly_once.proofs.Steps.{front-more, front-none}
use Rattle.tilt_exactly_once.specs.Committed.{Holds, HoldsFront}
use Rattle.tilt_exactly_once.specs.Feeding.{HasServedFeed, HasServedFrom, IsFailureFault, failing, passed, served, unpassed, unreached}
use Rattle.tilt_exactly_once.specs.Serving.{HasServed}
use Rattle.tilt_exactly_once.specs.declared.failure.Failure.{Failure}
use Rattle.tilt_exactly_once.specs.declared.halt.Halt.{Halt}
use Rattle.tilt_exactly_once.specs.declared.halt.Halt.TheVariants as halt
use Rattle.tilt_outside.specs.Faults.{Rose}
use Rattle.tilt_port.specs.Transcript.{Transcript}
use Rattle.tilt_store.specs.Commit.{Commit}
use Rattle.tilt_store.specs.Crash.{LeavesOnly}
use Rattle.tilt_store.specs.Kept.{Kept}

-- a commit is a front of whatever is read after it
front-any : (Is : List ℕ → Commit → Type 0) (bytes read : List ℕ) (c : Kept) → Holds Is bytes c → HoldsFront Is bytes read c
front-any Is bytes read c holds = front-more Is bytes [] read c (front-none Is bytes c holds)

module _ {F M Of : Type 0} (seen : F → Kept) (may_leave : F → Kept → Type 0) (is : M → Of → List ℕ → Type 0) (output : Of → List ℕ → List ℕ) (of : Of)
    (commits : Of → List ℕ → Commit → Type 0) (stops fits : Of → List ℕ → Type 0) (moment : F → ℕ) (left_since : F → ℕ → Kept → Type 0)
    (port_tells : Type 0) (from : ℕ) (bytes : List ℕ) (first mid : F) (old : Transcript) (folder : F) (new : Transcript) where
  -- each crash while the folder was opened left the commit of the bytes from before
  served-since : (between : Transcript) (end : Result (Unit {0}) Halt) → LeavesOnly moment left_since first mid (Holds (commits of) bytes)
      → HasServed seen may_leave is output of commits stops fits moment left_since port_tells mid bytes between folder new end
      → HasServed seen may_leave is output of commits stops fits moment left_since port_tells first bytes between folder new end
  served-since between end opened was =
      let Front = HoldsFront (commits of) bytes was.read in record {
        read = was.read;
        from_port = was.from_port;
        unwritten = was.unwritten;
        leaves = leaves-then moment left_since first mid folder Front
            (leaves-wider moment left_since first mid (Holds (commits of) bytes) Front (front-any (commits of) bytes was.read) opened) was.leaves;
        whole = was.whole;
        settled = was.settled;
        ended = was.ended;
        badly = was.badly;
        long = was.long;
      }

  pub fed-from : (end : Result (Unit {0}) Halt) → LeavesOnly moment left_since first mid (Holds (commits of) bytes)
      → HasServedFrom seen may_leave is output of commits stops fits moment left_since port_tells from bytes mid old folder new end
      → HasServedFeed seen may_leave is output of commits stops fits moment left_since port_tells from bytes first old folder new (failing end)
  fed-from (Err why) opened (unpassed same because) =
      unreached because (subst (λ (f : F). LeavesOnly moment left_since first f (Holds (commits of) bytes)) (sym same) opened)
  fed-from end opened (passed between reached over halts was) = served between reached over halts (served-since between end opened was)

-- a fault after others
rose-since : (before mid after : ℕ) → before ≤ mid → Rose mid after → Rose before after
rose-since before mid after low rose = ⊎_elim (λ more. inl (omega (arith, low, more))) (λ last. inr last) rose

pub fault-since : (end : Result (Unit {0}) Halt) (before mid after : ℕ) → before ≤ mid → (IsErrOf end halt.Failed → Rose mid after)
    → IfErr (failing end) (λ (why : Failure). IsFailureFault why → Rose before after)
fault-since (Ok u) before mid after low rose = tt
fault-since (Err why) before mid after low rose = λ same. rose-since before mid after low (rose (ap Err same))
