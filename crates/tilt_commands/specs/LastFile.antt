-- A command that reads a last file after its own and those of all its inputs: it is a command on a file and binds by what that one holds.
use Rattle.std.specs.Prelude.{◌≡◌, ◌+◌, ℕ, List, length, Result, IfOk, IfErr}
use Rattle.tilt_load.specs.Does.{Reading}
use Rattle.tilt_load.specs.FileCommand.{FileCommand, IsFileOutcome, HasFileTurn, HasBytes}
use Rattle.tilt_load.specs.Load.{IsLoadFault}
use Rattle.tilt_load.specs.SeriesFiles.{TakesSession}
use Rattle.tilt_outside.specs.Counts.{added_count}
use Rattle.tilt_report.specs.Report.{Outcome, refused, refusal, report_of}
use Rattle.tilt_report.specs.declared.fault.Fault.{Fault}
use Rattle.tilt_stream.specs.Snap.{Snapshot}
use Rattle.tilt_watch.specs.Watch.{Watch}
use Rattle.tilt_cli.specs.Binding.{Binding}

-- the command's own file was taken, and the series of all its inputs were
pub record AreTaken (command : FileCommand) (files : List ℕ → List ℕ) (file : List ℕ) (binds : List Binding) : Type 0 where
  pub says : command.Says
  pub taken : command.takes (files file) says
  pub rows : List (List Snapshot)
  pub read : TakesSession files binds (command.within says) (command.inputs says) rows

-- Of the command, by what its last file holds; what each name holds, the names of its files, and its binds.
module _ (command : List ℕ → FileCommand) (files : List ℕ → List ℕ) (file : List ℕ) (binds : List Binding) (last : List ℕ) where
  -- what it does
  abbrev pub IsLastOutcome : Outcome → Type 0
  IsLastOutcome outcome = IsFileOutcome (command (files last)) files file binds outcome

  -- it is a file's turn to be read: the last one comes after all others were taken
  pub data HasLastTurn (tells : Type 0) : List ℕ → Type 0 where
    earlier : {name : List ℕ} → HasFileTurn (command (files last)) tells files file binds name → HasLastTurn tells name
    last_turn : (tells → AreTaken (command (files last)) files file binds) → HasLastTurn tells last

  -- reads gave each of its files once, and whole: this is the count of bytes given before and after
  pub record IsLastRead (before after : ℕ) : Type 0 where
    pub count : ℕ
    pub bytes : HasBytes (command (files last)) files file binds count
    pub given : after ≡ added_count before (count + length (files last))

-- it was done: the result is its outcome, whoever watches, and keeps a property, or it is why there is none
pub record DoesLast {T : Type 0} (command : List ℕ → FileCommand) (comes : List Watch → T → Outcome) (keeps : T → Type 0)
    (file : List ℕ) (binds : List Binding) (last : List ℕ) (shelf : Reading) (result : Result T Fault) : Type 0 where
  pub made : shelf.tells
      → IfOk result (λ answer. (watchers : List Watch) → IsLastOutcome command shelf.files file binds last (comes watchers answer))
  pub kept : IfOk result keeps
  pub fault : IfErr result (λ fault. IsLoadFault shelf.tells
      (λ why. IsLastOutcome command shelf.files file binds last (refused (refusal why)))
      (HasLastTurn command shelf.files file binds last shelf.tells) shelf.faults_before shelf.faults_after (report_of fault))
  pub read : shelf.tells → IfOk result (λ _. IsLastRead command shelf.files file binds last shelf.given_before shelf.given_after)
  pub rest : shelf.rest
