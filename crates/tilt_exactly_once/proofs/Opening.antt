-- A folder that was opened, and what it goes on from.
use Rattle.std.proofs.Common.{◌≡◌, ℕ, ◌==◌, true, List, [], ◌∷◌, length, arith, Result, Ok, Err, IfErr, IfOk, refl, sym, ◌∙◌, ap, subst}
use Rattle.std.proofs.lemmas.Bool.Decides.{nat_tests}
use Rattle.tilt_exactly_once.proofs.Moments.{leaves-wider}
use Rattle.tilt_exactly_once.specs.Committed.{Holds, IsOf}
use Rattle.tilt_exactly_once.specs.Opening.{IsAt}
use Rattle.tilt_store.specs.Commit.{Commit}
use Rattle.tilt_store.specs.Crash.{LeavesOnly}
use Rattle.tilt_store.specs.Kept.{Kept}
use Rattle.tilt_store.specs.Open.{IsReopened, OpensSame}
use Rattle.tilt_store.specs.declared.open_error.OpenError.{OpenError}

abbrev ok_or : Commit → Result Commit OpenError → Commit
ok_or other (Ok commit) = commit
ok_or other (Err error) = other

module _ (Is : List ℕ → Commit → Type 0) (bytes : List ℕ) where
  -- what was opened is the commit of these bytes
  pub is-at : (was now : Kept) (state : List ℕ) → Holds Is bytes was → IsReopened [] was now state → IsAt Is bytes now state
  is-at was now state holds reopened =
      let same : holds.commit ≡ record { output = now.output; state = state } = ap (ok_or holds.commit) (sym holds.resumes ∙ reopened.same) in
      record { is = subst (IsOf Is bytes) same holds.is; committed = reopened.committed }

  -- a crash while it was opened leaves the same
  pub opens-holds : (was c : Kept) → Holds Is bytes was → OpensSame [] was c → Holds Is bytes c
  opens-holds was c holds opens = record { commit = holds.commit; resumes = opens.same ∙ holds.resumes; is = holds.is }

  module _ {F : Type 0} (seen : F → Kept) (moment : F → ℕ) (left_since : F → ℕ → Kept → Type 0) (folder : F) where
    -- it is opened
    pub opening-leaves : (later : F) → Holds Is bytes (seen folder) → LeavesOnly moment left_since folder later (OpensSame [] (seen folder))
        → LeavesOnly moment left_since folder later (Holds Is bytes)
    opening-leaves later holds step =
        leaves-wider moment left_since folder later (OpensSame [] (seen folder)) (Holds Is bytes) (λ c opens. opens-holds (seen folder) c holds opens) step

-- what follows from what is so after a call that returned, and after one that failed
pub ok-more : {T E : Type 0} (r : Result T E) (P Q : T → Type 0) → ((x : T) → P x → Q x) → IfOk r P → IfOk r Q
ok-more (Ok x) P Q more p = more x p
ok-more (Err e) P Q more p = tt

pub err-more : {T E : Type 0} (r : Result T E) (P Q : E → Type 0) → ((e : E) → P e → Q e) → IfErr r P → IfErr r Q
err-more (Ok x) P Q more p = tt
err-more (Err e) P Q more p = more e p

-- a text without bytes
zero-is : (n : ℕ) → (n == 0) ≡ true → n ≡ 0
zero-is n none = grind (arith, nat_tests)

no-bytes : (bytes : List ℕ) → length bytes ≡ 0 → bytes ≡ []
no-bytes [] none = refl
no-bytes (byte ∷ bytes) none = absurd (omega (arith, none))

pub empty-is : (bytes : List ℕ) → (length bytes == 0) ≡ true → bytes ≡ []
empty-is bytes none = no-bytes bytes (zero-is (length bytes) none)
