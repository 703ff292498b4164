-- The outcome of arguments, given what each name holds and who watches: the text that is printed, or why nothing is. What each command
-- does is a row of the table.
use Rattle.std.specs.Prelude.{◌≡◌, ⊤, List, [], ℕ}
use Rattle.tilt_commands.specs.LastFile.{HasLastTurn, IsLastOutcome, IsLastRead}
use Rattle.tilt_commands.specs.Table.{Row, reads, reads_last, makes, row_of}
use Rattle.tilt_load.specs.FileCommand.{IsFileOutcome, HasFileTurn, HasBytes}
use Rattle.tilt_outside.specs.Counts.{added_count}
use Rattle.tilt_report.specs.Report.{Outcome, refused, usage}
use Rattle.tilt_watch.specs.Watch.{Watch}
use Rattle.tilt_cli.specs.Command.{CommandValue, IsCommand, run, pipe, watch, flow, start, resume_upto}

-- the outcome of a row
abbrev pub IsRowOutcome : (List ℕ → List ℕ) → List Watch → Row → Outcome → Type 0
IsRowOutcome files watchers (reads file binds command) outcome = IsFileOutcome (command watchers) files file binds outcome
IsRowOutcome files watchers (reads_last file binds last command) outcome = IsLastOutcome command files file binds last outcome
IsRowOutcome files watchers (makes is_outcome) outcome = is_outcome outcome

-- it is a file's turn to be read
abbrev pub HasRowTurn : Type 0 → (List ℕ → List ℕ) → List Watch → Row → List ℕ → Type 0
HasRowTurn tells files watchers (reads file binds command) name = HasFileTurn (command watchers) tells files file binds name
HasRowTurn tells files watchers (reads_last file binds last command) name = HasLastTurn command files file binds last tells name
HasRowTurn tells files watchers (makes is_outcome) name = ⊥

-- reads gave each of its files once, and whole: this is the count of bytes given before and after
abbrev pub IsRowRead : (List ℕ → List ℕ) → List Watch → Row → ℕ → ℕ → Type 0
IsRowRead files watchers (reads file binds command) before after =
    (count : ℕ) × HasBytes (command watchers) files file binds count × (after ≡ added_count before count)
IsRowRead files watchers (reads_last file binds last command) before after = IsLastRead command files file binds last before after
IsRowRead files watchers (makes is_outcome) before after = after ≡ before

-- what the arguments do
pub data IsOutcome (words : List (List ℕ)) (files : List ℕ → List ℕ) (watchers : List Watch) : Outcome → Type 0 where
  no_command : ((command : CommandValue) → ¬ (IsCommand words command)) → IsOutcome words files watchers (refused usage)
  does : {outcome : Outcome} (command : CommandValue) → IsCommand words command → IsRowOutcome files watchers (row_of command) outcome
      → IsOutcome words files watchers outcome

-- it is a file's turn to be read, whoever watches
abbrev pub HasTurn : Type 0 → List (List ℕ) → (List ℕ → List ℕ) → List ℕ → Type 0
HasTurn tells words files name =
    (command : CommandValue) × IsCommand words command × ((watchers : List Watch) × HasRowTurn tells files watchers (row_of command) name)

-- reads gave each file of the arguments once, and whole: this is the count of bytes given before and after
abbrev pub HaveRead : List (List ℕ) → (List ℕ → List ℕ) → ℕ → ℕ → Type 0
HaveRead words files before after =
    (command : CommandValue) × IsCommand words command × ((watchers : List Watch) × IsRowRead files watchers (row_of command) before after)

-- the arguments are a command
abbrev pub IsRunnable : List (List ℕ) → Type 0
IsRunnable words = (command : CommandValue) × IsCommand words command

-- whether a command saves
abbrev pub Saves : CommandValue → Type 0
Saves (start query binds plain upto save) = ⊤
Saves (resume_upto checkpoint binds plain upto save) = ⊤
Saves command = ⊥

-- the arguments are a command that saves
abbrev pub IsSaving : List (List ℕ) → Type 0
IsSaving words = (command : CommandValue) × IsCommand words command × Saves command

-- whether a command's text is given out by a pipe, which takes memory between writes: so it is for `run` without cuts, `pipe`, `watch`
-- and `flow`
abbrev pub Streams : CommandValue → Type 0
Streams (run query binds plain cuts) = cuts ≡ []
Streams (pipe query binds plain) = ⊤
Streams (watch query binds plain) = ⊤
Streams (flow pipeline binds plain) = ⊤
Streams command = ⊥

-- the arguments are a command that does
abbrev pub IsStreaming : List (List ℕ) → Type 0
IsStreaming words = (command : CommandValue) × IsCommand words command × Streams command

-- whether a command shows the watchers what it prints
abbrev pub Shows : CommandValue → Type 0
Shows (watch query binds plain) = ⊤
Shows command = ⊥
