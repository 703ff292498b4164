-- What the watchers are shown, and how they are then.
use Rattle.std.specs.Prelude.{◌≡◌, ◌⊎◌, List, ℕ, Bool, Option, None, Some}
use Rattle.tilt_commands.specs.Table.{run_row}
use Rattle.tilt_load.specs.FileCommand.{IsFileOutcome}
use Rattle.tilt_printed.specs.Left.{Left}
use Rattle.tilt_printed.specs.Show.{SeePart}
use Rattle.tilt_printed.specs.declared.unput.Unput.TheVariants.{Failed, OutOfMemory}
use Rattle.tilt_report.specs.Report.{Report, usage, refusal, read_fault, write_fault, save_fault, out_of_memory, printed}
use Rattle.tilt_stream.specs.Snap.{Snapshot}
use Rattle.tilt_stream.specs.Text.{text_of}
use Rattle.tilt_cli.specs.Binding.{Binding}
use Rattle.tilt_cli.specs.Command.{CommandValue, IsCommand, watch}

-- the arguments are `watch` with this query and these binds
abbrev pub IsWatchOf : List (List ℕ) → List ℕ → List Binding → Type 0
IsWatchOf words query binds = (plain : Bool) × IsCommand words (watch query binds plain)

-- the arguments are `watch`
abbrev pub IsWatch : List (List ℕ) → Type 0
IsWatch words = (query : List ℕ) × (binds : List Binding) × IsWatchOf words query binds

-- `run` prints the text of these snapshots, if the shelf reports what it holds
abbrev pub WatchesRun : Type 0 → (List ℕ → List ℕ) → List ℕ → List Binding → List Snapshot → Type 0
WatchesRun tells files query binds list = tells → IsFileOutcome (run_row query) files query binds (printed (text_of list))

-- what a command shows the watchers: nothing, or those snapshots whose text `run` prints
abbrev pub IsShow : Type 0 → (List ℕ → List ℕ) → CommandValue → Option (List Snapshot) → Type 0
IsShow tells files (watch query binds plain) shown =
    (list : List Snapshot) × (shown ≡ Some list) × WatchesRun tells files query binds list
IsShow tells files command shown = shown ≡ None

-- the watchers are as they were, and nothing was written
pub record IsUntouched (left : Left) : Type 0 where
  pub kept : left.kept
  pub unwritten : left.tells → left.new ≡ left.old

-- a command that shows such snapshots ended with this report. The watchers are as they were, unless it is a write fault, or there was no
-- memory for what is written
abbrev pub SeeOfFault : Left → (Option (List Snapshot) → Type 0) → Report → Type 0
SeeOfFault left is_show usage = left.kept
SeeOfFault left is_show (refusal why) = left.kept
SeeOfFault left is_show (read_fault name) = left.kept
SeeOfFault left is_show write_fault = (shown : Option (List Snapshot)) × is_show shown × SeePart Failed left shown
SeeOfFault left is_show (save_fault name) = left.kept
SeeOfFault left is_show out_of_memory =
    IsUntouched left ⊎ ((shown : Option (List Snapshot)) × is_show shown × SeePart OutOfMemory left shown)
