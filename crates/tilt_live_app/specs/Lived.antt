-- What the program does with its arguments (our own rule).
use Rattle.std.specs.Prelude.{◌≡◌, ℕ, List, Option, None, Some}
use Rattle.tilt_live_cli.specs.Arguments.{CommandValue, FolderValue, IsLiveCommand}
use Rattle.tilt_input_scales.specs.Scales.{ScalesValue}
use Rattle.tilt_live_app.specs.ByKeys.{HasDoneByKeys}
use Rattle.tilt_live_app.specs.Change.{ShelfChange}
use Rattle.tilt_live_app.specs.Checking.{HasDoneCheck}
use Rattle.tilt_live_app.specs.Done.{HasDone}
use Rattle.tilt_live_app.specs.InFolder.{FolderMeaning, FoldersChange, HasDoneIn}
use Rattle.tilt_serving.specs.Reported.{Reported}
use Rattle.tilt_port.specs.Transcript.{Transcript}
use Rattle.tilt_report.specs.Report.{line_of, out_of_memory, usage}
use Rattle.tilt_unit_report.specs.declared.bound.InputBound.{InputBound}

-- The shelf and the port before and after, what a sink of reports says, and the meanings of folders.
module _ {K : Type 0} (shelf : ShelfChange) (tells : Type 0) (old new : Transcript) (err_tells : Type 0) (err_written : K → List ℕ) (err_faults : K → ℕ)
    {F : Type 0} (means : FolderMeaning F) (folders : FoldersChange F) where
  -- The arguments are no command, or there is no memory to read them. Or they are a command that checks a query and changes no file, one whose feed
  -- has keys, one that chooses no folder, or one that does. The last two are the status, and the folder that it got
  pub data HasLived (words : List (List ℕ)) (err err_then : K) : ℕ → Option F → Type 0 where
    no_command : ((command : CommandValue) → ¬ (IsLiveCommand words command)) → new ≡ old
        → Reported err_tells err_written err_faults err err_then (line_of usage) → HasLived words err err_then 2 None
    no_memory : new ≡ old → Reported err_tells err_written err_faults err err_then (line_of out_of_memory)
        → HasLived words err err_then 5 None
    checked : {status : ℕ} (command : CommandValue) (scales : ScalesValue) (bounds : List InputBound) → IsLiveCommand words command
        → command.units ≡ Some scales → command.check ≡ Some bounds → shelf.holds ≡ shelf.held
        → HasDoneCheck tells old new err_tells err_written err_faults shelf command.query scales bounds err err_then status
        → HasLived words err err_then status None
    done_by_keys : {status : ℕ} (command : CommandValue) (most : ℕ) → IsLiveCommand words command → command.check ≡ None → command.folder ≡ None
        → command.asked.keys ≡ Some most → shelf.holds ≡ shelf.held
        → HasDoneByKeys shelf tells old new err_tells err_written err_faults command most err err_then status → HasLived words err err_then status None
    done : {status : ℕ} (command : CommandValue) → IsLiveCommand words command → command.check ≡ None → command.folder ≡ None
        → command.asked.keys ≡ None
        → HasDone shelf tells old new err_tells err_written err_faults command err err_then status → HasLived words err err_then status None
    done_in : {status : ℕ} {found : Option F} (command : CommandValue) (choice : FolderValue) → IsLiveCommand words command
        → command.check ≡ None → command.folder ≡ Some choice
        → HasDoneIn shelf tells old new err_tells err_written err_faults command means folders choice err err_then status found
        → HasLived words err err_then status found
