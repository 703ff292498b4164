-- The promise of the program: what its one call, `tilt`, does.
use Rattle.std.specs.Prelude.{◌≡◌, ◌≤◌, ◌⊎◌, ◌↔◌, List, ℕ, Option}
use Rattle.tilt_app.specs.Cause.{IsCause, IsLineWritten}
use Rattle.tilt_app.specs.Change.{ShelfChange, SinkChange}
use Rattle.tilt_app.specs.Continued.{IsContinued}
use Rattle.tilt_app.specs.Done.{IsDone}
use Rattle.tilt_app.specs.Outcome.{HasTurn, HaveRead, IsOutcome, IsRunnable, IsSaving, IsStreaming}
use Rattle.tilt_app.specs.Show.{IsUntouched, IsWatch, IsWatchOf, WatchesRun}
use Rattle.tilt_outside.specs.Faults.{Rose}
use Rattle.tilt_printed.specs.Left.{Left}
use Rattle.tilt_printed.specs.Saving.{SaveValue, outcome_of}
use Rattle.tilt_printed.specs.Show.{HaveSeen, HaveSeenInPart}
use Rattle.tilt_printed.specs.declared.unput.Unput.TheVariants.{Failed, OutOfMemory}
use Rattle.tilt_report.specs.Report.{Outcome, Report, refused, status_of, line_of}
use Rattle.tilt_stream.specs.Snap.{Snapshot}
use Rattle.tilt_cli.specs.Binding.{Binding}
use Rattle.tilt_cli.specs.Command.{CommandValue, IsCommand}

-- Of a call: its arguments, what it leaves of the shelf, of the output, of the error output and of the watchers, and its status. A count of
-- faults that is at its end can't rise, and is taken for one that rose (`Rose`).
module _ (words : List (List ℕ)) (shelf : ShelfChange) (out err : SinkChange) (watchers : Left) (status : ℕ) where
  -- what the arguments and the files define: a text, with bytes to save if the command saves, or why nothing is printed
  abbrev pub IsCallOutcome : Outcome → Type 0
  IsCallOutcome = IsOutcome words shelf.held watchers.before

  pub record KeepsPromise : Type 0 where
    -- status 0: the outcome is a text, which was written whole, and then its bytes were saved, if there are any
    pub done : status ≡ 0 → IsDone IsCallOutcome shelf out
    -- status 0 and 6: nothing of the text is held back
    pub handed_on : (status ≡ 0) ⊎ (status ≡ 6) → out.held_back ≡ 0
    -- status 0: the error output is as before
    pub quiet : status ≡ 0 → err.kept
    -- status 0: each file was read whole, once for each place where the arguments name it, by the count of bytes given
    pub read_once : status ≡ 0 → shelf.tells → HaveRead words shelf.held shelf.given_before shelf.given_after
    -- status 0: a session wrote and saved what one session on all rows does, beyond what the sessions before it wrote
    pub continued : status ≡ 0 → shelf.tells → (command : CommandValue) → IsCommand words command → IsContinued shelf out command
    -- any other status has its cause and its line
    pub reported : (status ≡ 0 → ⊥) → (report : Report) × (status ≡ status_of report)
        × IsCause IsCallOutcome (HasTurn shelf.tells words shelf.held) shelf out report × IsLineWritten err (line_of report)
    -- any other status: nothing of the line is held back, unless the error output's count of faults rose
    pub told : (status ≡ 0 → ⊥) → (err.held_back ≡ 0) ⊎ Rose err.before err.after
    -- nothing is written except with status 0, 4 and 6, and with 5 by a command that takes memory between writes
    pub unwritten : (status ≡ 0 → ⊥) → (status ≡ 4 → ⊥) → (status ≡ 6 → ⊥) → ((status ≡ 5) × IsStreaming words → ⊥) → out.kept
    -- status 2: the arguments are no command
    pub usage : status ≡ 2 → ¬ (IsRunnable words)
    -- if the arguments are no command, the status is 2, unless there is no memory
    pub no_command : ¬ (IsRunnable words) → (status ≡ 2) ⊎ (status ≡ 5)
    -- if the outcome is a text and no count of faults rose, the command is done, unless there is no memory
    pub complete : shelf.tells → (text : List ℕ) (save : Option SaveValue) → IsCallOutcome (outcome_of text save)
        → (Rose shelf.reads_before shelf.reads_after → ⊥) → (Rose shelf.saves_before shelf.saves_after → ⊥)
        → (Rose out.before out.after → ⊥) → (status ≡ 0) ⊎ (status ≡ 5)
    -- if the outcome is an error and the count of failed reads didn't rise, the status is that of the error, unless there is no memory
    pub complete_refusal : shelf.tells → (report : Report) → IsCallOutcome (refused report)
        → (Rose shelf.reads_before shelf.reads_after → ⊥) → (status ≡ status_of report) ⊎ (status ≡ 5)
    -- if no count of faults rose, no status reports a fault, even if the shelf doesn't report what it holds
    pub faultless : (Rose shelf.reads_before shelf.reads_after → ⊥) → (Rose shelf.saves_before shelf.saves_after → ⊥)
        → (Rose out.before out.after → ⊥) → (status ≡ 0) ⊎ ((status ≡ 1) ⊎ ((status ≡ 2) ⊎ (status ≡ 5)))
    -- if the command isn't `watch`, the watchers are as before
    pub unwatched : ¬ (IsWatch words) → watchers.kept
    -- with any status except 0, 4 and 5 the watchers are as before
    pub unseen : (status ≡ 0 → ⊥) → (status ≡ 4 → ⊥) → (status ≡ 5 → ⊥) → watchers.kept
    -- status 0 of `watch`: the watchers saw all rows that `run` prints
    pub seen : status ≡ 0 → (query : List ℕ) (binds : List Binding) → IsWatchOf words query binds
        → (list : List Snapshot) × WatchesRun shelf.tells shelf.held query binds list × HaveSeen watchers list
    -- status 4 of `watch`: they saw the first of these rows, whose lines were written
    pub seen_in_part : status ≡ 4 → (query : List ℕ) (binds : List Binding) → IsWatchOf words query binds
        → (list : List Snapshot) × WatchesRun shelf.tells shelf.held query binds list × HaveSeenInPart Failed watchers list
    -- status 5 of `watch`: the same, or they saw nothing and nothing was written
    pub seen_before_want : status ≡ 5 → (query : List ℕ) (binds : List Binding) → IsWatchOf words query binds
        → IsUntouched watchers ⊎ ((list : List Snapshot) × WatchesRun shelf.tells shelf.held query binds list
        × HaveSeenInPart OutOfMemory watchers list)
    -- with any status except 0 and 6 the shelf was only read
    pub rest : (status ≡ 0 → ⊥) → (status ≡ 6 → ⊥) → shelf.only_read
    -- if the command doesn't save, the shelf was only read
    pub unsaved : ¬ (IsSaving words) → shelf.only_read
    -- each name takes what it took
    pub takes : (name : List ℕ) (n : ℕ) → shelf.took name n ↔ shelf.takes name n
    -- the error output takes every line
    pub lines_left : (n : ℕ) → err.takes n
    -- no count of faults fell
    pub counts : (shelf.reads_before ≤ shelf.reads_after) × (shelf.saves_before ≤ shelf.saves_after)
        × (out.before ≤ out.after) × (err.before ≤ err.after)
