-- What keeping the state of a run leaves of a shelf.
use Rattle.std.specs.Prelude.{◌≡◌, ⊤, ℕ, List, Result, Ok, Err}
use Rattle.tilt_compiler.specs.Accepted.{AcceptedParts}
use Rattle.tilt_feed_text.specs.Split.{ended}
use Rattle.tilt_live_app.specs.Change.{IsSaved, IsUnsaved, ShelfChange}
use Rattle.tilt_live_app.specs.declared.failure.Failure.{Failure}
use Rattle.tilt_live_app.specs.declared.failure.Failure.TheVariants.{Halted, Unbegun, Unmade, Unsaved}
use Rattle.tilt_live_run.specs.Feeds.{IsRunAt}
use Rattle.tilt_live_run.specs.Left.{state_left}
use Rattle.tilt_live_run.specs.declared.live_run.LiveRun.{LiveRun}
use Rattle.tilt_live_run.specs.declared.run_options.RunOptions.{RunOptions}
use Rattle.tilt_live_state.specs.Valid.{IsStateOf}
use Rattle.tilt_run_state.specs.Spelling.{opening as opened, spelled}
use Rattle.tilt_run_state.specs.Valid.{FitsForm}
use Rattle.tilt_syntax.specs.Tree.{StatementTree}

-- a save failed
abbrev pub IsSaveFailure : Failure → Type 0
IsSaveFailure (Unsaved name) = ⊤
IsSaveFailure other = ⊥

-- The run of a query, what its states begin with, and how many bytes of output were written.
module _ (run : LiveRun) (query : List StatementTree) (opening : List ℕ) (written : ℕ) where
  -- the text is that of the state of the run, whatever bytes it is after
  abbrev pub IsTextOfRun : List ℕ → Type 0
  IsTextOfRun text = (accepted : AcceptedParts) (options : RunOptions) (bytes : List ℕ) → IsRunAt run (record { accepted = accepted; options = options }) bytes
      → opening ≡ opened options.form → (text ≡ spelled options.form (state_left options accepted.core query (ended bytes) written))
      × IsStateOf accepted.core (state_left options accepted.core query (ended bytes) written).state
      × FitsForm options.form (state_left options accepted.core query (ended bytes) written)

  -- its state was saved under the name; or the save failed, or there was no memory
  abbrev pub HasKept : ShelfChange → List ℕ → Result (Unit {0}) Failure → Type 0
  HasKept shelf name (Ok _) = (text : List ℕ) × IsTextOfRun text × IsSaved shelf name text
  HasKept shelf name (Err (Unsaved file)) = (file.now ≡ name) × ((text : List ℕ) × IsTextOfRun text × IsUnsaved shelf name text)
  HasKept shelf name (Err Unmade) = ⊤
  HasKept shelf name (Err (Unbegun fault)) = ⊥
  HasKept shelf name (Err (Halted why)) = ⊥
