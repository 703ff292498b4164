-- A lawful row has one outcome, and always has one.
use Rattle.std.proofs.Common.{◌≡◌, List, ℕ, refl}
use Rattle.tilt_app.specs.Outcome.{IsRowOutcome}
use Rattle.tilt_commands.proofs.Lawful.{IsLawfulRow}
use Rattle.tilt_commands.specs.Table.{Row, reads, reads_last, makes}
use Rattle.tilt_load.proofs.FileCommands.{file_once, file_some, no_file_usage}
use Rattle.tilt_report.specs.Report.{Outcome, refused, usage}
use Rattle.tilt_watch.specs.Watch.{Watch}

pub row_once : (files : List ℕ → List ℕ) (watchers : List Watch) (row : Row) → IsLawfulRow row → (o p : Outcome) → IsRowOutcome files watchers row o
    → IsRowOutcome files watchers row p → o ≡ p
row_once files watchers (reads file binds command) law o p is is' = file_once (command watchers) (law watchers) files file binds o p is is'
row_once files watchers (reads_last file binds last command) law o p is is' =
    file_once (command (files last)) (law (files last)) files file binds o p is is'
row_once files watchers (makes is_outcome) law o p is is' = law.once o p is is'

pub row_some : (files : List ℕ → List ℕ) (watchers : List Watch) (row : Row) → IsLawfulRow row → (o : Outcome) × IsRowOutcome files watchers row o
row_some files watchers (reads file binds command) law = file_some (command watchers) (law watchers) files file binds
row_some files watchers (reads_last file binds last command) law = file_some (command (files last)) (law (files last)) files file binds
row_some files watchers (makes is_outcome) law = law.some

pub row_no_usage : (files : List ℕ → List ℕ) (watchers : List Watch) (row : Row) → IsLawfulRow row → IsRowOutcome files watchers row (refused usage) → ⊥
row_no_usage files watchers (reads file binds command) law is = no_file_usage (command watchers) (law watchers) files file binds (refused usage) is refl
row_no_usage files watchers (reads_last file binds last command) law is =
    no_file_usage (command (files last)) (law (files last)) files file binds (refused usage) is refl
row_no_usage files watchers (makes is_outcome) law is = law.no_usage is
