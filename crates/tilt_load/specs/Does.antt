-- What a function says that does a command which is given a file and binds.
use Rattle.std.specs.Prelude.{◌≡◌, ℕ, List, Result, IfOk, IfErr}
use Rattle.tilt_load.specs.FileCommand.{FileCommand, IsFileOutcome, HasFileTurn, HasBytes}
use Rattle.tilt_load.specs.Load.{IsLoadFault}
use Rattle.tilt_outside.specs.Counts.{added_count}
use Rattle.tilt_outside.specs.Reads.{OnlyReads}
use Rattle.tilt_report.specs.Report.{Outcome, Report, refused, refusal, report_of}
use Rattle.tilt_report.specs.declared.fault.Fault.{Fault}
use Rattle.tilt_cli.specs.Binding.{Binding}

-- what a shelf was before a call that only reads, and is after it
pub record Reading : Type 1 where
  -- whether it reports what it holds, and what each name holds
  pub tells : Type 0
  pub files : List ℕ → List ℕ
  -- how often a read had failed, and has now
  pub faults_before : ℕ
  pub faults_after : ℕ
  -- how many bytes reads had given, and have now
  pub given_before : ℕ
  pub given_after : ℕ
  -- nothing else has changed
  pub rest : Type 0

-- the same, of a shelf's meanings and its states before and after
abbrev pub reading : {S : Type 0} → Type 0 → (S → List ℕ → List ℕ) → (S → ℕ) → (S → ℕ) → (S → List ℕ → ℕ → Type 0) → (S → ℕ) → S → S
    → Reading
reading tells files read_faults save_faults takes given old new = record {
  tells = tells;
  files = files old;
  faults_before = read_faults old;
  faults_after = read_faults new;
  given_before = given old;
  given_after = given new;
  rest = OnlyReads files read_faults save_faults takes old new;
}

-- why a command isn't done: a read fault only if its count rose, and a refusal only if it is the outcome
abbrev pub IsUndone : FileCommand → List ℕ → List Binding → Reading → Report → Type 0
IsUndone command file binds shelf report =
    IsLoadFault shelf.tells (λ why. IsFileOutcome command shelf.files file binds (refused (refusal why)))
    (HasFileTurn command shelf.tells shelf.files file binds) shelf.faults_before shelf.faults_after report

-- of the bytes of a command's files: all were read, and nothing else
pub record IsRead (command : FileCommand) (file : List ℕ) (binds : List Binding) (shelf : Reading) : Type 0 where
  pub count : ℕ
  pub bytes : HasBytes command shelf.files file binds count
  pub given : shelf.given_after ≡ added_count shelf.given_before count

-- a command was done; for each value of `W` the command can be another one, and the result can give another outcome. The result gives the
-- outcome and keeps a property, or it is why there is none
pub record Does {T W : Type 0} (command : W → FileCommand) (comes : W → T → Outcome) (keeps : T → Type 0) (file : List ℕ)
    (binds : List Binding) (shelf : Reading) (result : Result T Fault) : Type 0 where
  pub made : shelf.tells
      → IfOk result (λ answer. (beside : W) → IsFileOutcome (command beside) shelf.files file binds (comes beside answer))
  pub kept : IfOk result keeps
  pub fault : (beside : W) → IfErr result (λ fault. IsUndone (command beside) file binds shelf (report_of fault))
  pub read : shelf.tells → IfOk result (λ _. (beside : W) → IsRead (command beside) file binds shelf)
  pub rest : shelf.rest
