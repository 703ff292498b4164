-- What a command is that is given a file and binds, and what it does: its file declares inputs, and the series of each input is read in
-- order. The first refusal counts: first of the file, then of the input names, then of the series.
use Rattle.std.specs.Prelude.{◌≡◌, ℕ, ◌+◌, List, Contains, length}
use Rattle.tilt_load.specs.Inputs.{bytes_of_inputs}
use Rattle.tilt_load.specs.SeriesFiles.{IsNextOfSession, RefusesSession, TakesSession}
use Rattle.tilt_report.specs.Report.{Reason, Outcome, refused, refusal}
use Rattle.tilt_series.specs.Series.{Bounds}
use Rattle.tilt_stream.specs.Snap.{Snapshot}
use Rattle.tilt_cli.specs.Binding.{Binding}

-- a command that is given a file and binds
pub record FileCommand : Type 1 where
  -- what its file may say
  pub Says : Type 0
  -- a file with these bytes says this
  pub takes : List ℕ → Says → Type 0
  -- why a file with these bytes is rejected
  pub refuses : List ℕ → Reason → Type 0
  -- the inputs whose series are read
  pub inputs : Says → List (List ℕ)
  -- where the rows of the input at a place may start
  pub within : Says → ℕ → Bounds
  -- the outcome of the command on the rows of its inputs
  pub gives : Says → List (List Snapshot) → Outcome → Type 0

-- Of the command: what each name holds, the name of its file, and its binds.
module _ (command : FileCommand) (files : List ℕ → List ℕ) (file : List ℕ) (binds : List Binding) where
  -- what the command does, a case for each end
  pub data IsFileOutcome : Outcome → Type 0 where
    no_file : (why : Reason) → command.refuses (files file) why → IsFileOutcome (refused (refusal why))
    no_inputs : (says : command.Says) (why : Reason) → command.takes (files file) says
        → RefusesSession files binds (command.within says) (command.inputs says) why → IsFileOutcome (refused (refusal why))
    done : {outcome : Outcome} (says : command.Says) (rows : List (List Snapshot)) → command.takes (files file) says
        → TakesSession files binds (command.within says) (command.inputs says) rows → command.gives says rows outcome
        → IsFileOutcome outcome

  -- it is the turn of the input of a bind: the file was taken, and the input of the bind comes next
  pub record IsNext (bind : Binding) : Type 0 where
    pub says : command.Says
    pub taken : command.takes (files file) says
    pub input : IsNextOfSession files binds (command.within says) (command.inputs says) bind

  -- the file and the files of its inputs have this many bytes together
  pub record HasBytes (count : ℕ) : Type 0 where
    pub says : command.Says
    pub taken : command.takes (files file) says
    pub is : count ≡ length (files file) + bytes_of_inputs files binds (command.inputs says)

-- it is a file's turn to be read: the command's own, or the file of an input
pub data HasFileTurn (command : FileCommand) (tells : Type 0) (files : List ℕ → List ℕ) (file : List ℕ) (binds : List Binding)
    : List ℕ → Type 0 where
  own_turn : HasFileTurn command tells files file binds file
  input_turn : (bind : Binding) → Contains binds bind → (tells → IsNext command files file binds bind)
      → HasFileTurn command tells files file binds bind.file
