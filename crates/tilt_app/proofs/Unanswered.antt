-- If a command gives a fault: its cause, that it is no save fault, and that the watchers are as they were.
use Rattle.std.proofs.Common.{◌≡◌, List, [], Option, Err}
use Rattle.tilt_app.proofs.Complete.{no_save_fault, unanswered_cause}
use Rattle.tilt_app.proofs.Seen.{unanswered_seen}
use Rattle.tilt_app.proofs.Shown.{answer_undone, load_unanswered}
use Rattle.tilt_app.specs.Answered.{IsAnswered}
use Rattle.tilt_app.specs.Cause.{IsCause, IsSaveFault, IsUnanswered}
use Rattle.tilt_app.specs.Change.{SinkChange, shelf_change}
use Rattle.tilt_app.specs.Outcome.{HasRowTurn, IsRowOutcome}
use Rattle.tilt_app.specs.Show.{IsUntouched, SeeOfFault}
use Rattle.tilt_commands.specs.Table.{row_of}
use Rattle.tilt_load.specs.Does.{Reading, reading}
use Rattle.tilt_outside.specs.declared.shelf.Shelf as shelf
use Rattle.tilt_printed.specs.Left.{Left}
use Rattle.tilt_report.specs.Report.{report_of}
use Rattle.tilt_report.specs.declared.fault.Fault.{Fault}
use Rattle.tilt_stream.specs.Snap.{Snapshot}
use Rattle.tilt_watch.specs.Watch.{Watch}
use Rattle.tilt_cli.specs.Command.{CommandValue}

-- of a shelf's meaning, and its states before the call and after it
module _ {S : Type 0} (means : shelf.Ghosts S) (old new : S) where
  abbrev read : Reading
  read = reading means.tells means.files means.read_faults means.save_faults means.takes means.given old new

  module _ (command : CommandValue) (fault : Fault) (does : IsAnswered command read (Err fault)) where
    undone : (watchers : List Watch) → IsUnanswered (IsRowOutcome (means.files old) watchers (row_of command))
        (λ name. (any : List Watch) × HasRowTurn means.tells (means.files old) any (row_of command) name) (shelf_change means old new) (report_of fault)
    undone watchers =
        load_unanswered (IsRowOutcome (means.files old) watchers (row_of command)) (HasRowTurn means.tells (means.files old) watchers (row_of command))
        (λ name. (any : List Watch) × HasRowTurn means.tells (means.files old) any (row_of command) name) (shelf_change means old new)
        (λ name turn. (watchers, turn)) (report_of fault)
        (answer_undone command read fault does watchers)

    pub fault_cause : (watchers : List Watch) (out : SinkChange) → out.new ≡ out.old
        → IsCause (IsRowOutcome (means.files old) watchers (row_of command)) (λ name. (any : List Watch) × HasRowTurn means.tells (means.files old) any (row_of command) name)
        (shelf_change means old new) out (report_of fault)
    fault_cause watchers out same =
        unanswered_cause (IsRowOutcome (means.files old) watchers (row_of command)) (λ name. (any : List Watch) × HasRowTurn means.tells (means.files old) any (row_of command) name)
        (shelf_change means old new) out (report_of fault) same (undone watchers)

    pub fault_of_no_save : IsSaveFault (report_of fault) → ⊥
    fault_of_no_save is =
        no_save_fault (IsRowOutcome (means.files old) [] (row_of command)) (λ name. (any : List Watch) × HasRowTurn means.tells (means.files old) any (row_of command) name)
        (shelf_change means old new) (report_of fault) (undone []) is

    pub fault_seen : (left : Left) (is_show : Option (List Snapshot) → Type 0) → IsUntouched left → SeeOfFault left is_show (report_of fault)
    fault_seen left is_show same =
        unanswered_seen (IsRowOutcome (means.files old) [] (row_of command)) (λ name. (any : List Watch) × HasRowTurn means.tells (means.files old) any (row_of command) name)
        (shelf_change means old new) left is_show (report_of fault) same (undone [])
