-- What a session after a checkpoint does, given its checkpoint file, its binds, where it ends and what each name holds.
use Rattle.std.specs.Prelude.{◌≡◌, ℕ, ℤ, List, Option, Some, None}
use Rattle.tilt_checkpoint.specs.Checkpoint.{CheckpointParts, cuts_of}
use Rattle.tilt_checkpoint.specs.Cuts.{CutsParts}
use Rattle.tilt_checkpoint.specs.Spelling.{spelling}
use Rattle.tilt_session.specs.Cuts.{IsOnward, first_fall}
use Rattle.tilt_session.specs.Later.{newly, next}
use Rattle.tilt_session.specs.declared.cut.Cut.{Cut}
use Rattle.tilt_session.specs.declared.cut.Cut.TheVariants.{Upto, End}
use Rattle.tilt_load.specs.CheckpointFile.{TakesCheckpoint, RefusesCheckpoint}
use Rattle.tilt_load.specs.FileCommand.{FileCommand}
use Rattle.tilt_load.specs.InputCuts.{cuts_by}
use Rattle.tilt_load.specs.SeriesFiles.{bounds_in}
use Rattle.tilt_printed.specs.Saving.{SaveValue}
use Rattle.tilt_report.specs.Report.{Reason, Outcome, printed, printed_and_saved, cut_back}
use Rattle.tilt_series.specs.Series.{Bounds}
use Rattle.tilt_commands.specs.RowBounds.{all_after}
use Rattle.tilt_commands.specs.SavedCut.{RefusesEnd, SavedCutValue, cut_of, faulty_end}
use Rattle.tilt_stream.specs.Snap.{Snapshot}
use Rattle.tilt_stream.specs.Text.{lines_of}
use Rattle.tilt_types.specs.Checked.{core_of}

-- the names of a checkpoint's inputs
abbrev pub inputs_of : CheckpointParts → List (List ℕ)
inputs_of c = (core_of c.query).inputs

-- where a session after a checkpoint ends
abbrev pub end_after : Option SavedCutValue → CheckpointParts → Cut
end_after ending c = cut_of ending (inputs_of c)

-- the text spells this checkpoint, the cuts are given to its inputs, and none of them falls
pub record GoesOn (ending : Option SavedCutValue) (bytes : List ℕ) (c : CheckpointParts) : Type 0 where
  pub taken : TakesCheckpoint bytes c
  pub named : faulty_end ending (inputs_of c) ≡ None
  pub onward : IsOnward (cuts_of c) (end_after ending c)

-- Why a session doesn't go on after the checkpoint file of a name: the file is rejected. Or else a name of the cuts is faulty, or else a cut falls.
pub data RefusesToGoOn (name : List ℕ) (ending : Option SavedCutValue) (bytes : List ℕ) : Reason → Type 0 where
  no_checkpoint : {why : Reason} → RefusesCheckpoint name bytes why → RefusesToGoOn name ending bytes why
  no_cuts : {why : Reason} (c : CheckpointParts) → TakesCheckpoint bytes c → RefusesEnd ending (inputs_of c) why
      → RefusesToGoOn name ending bytes why
  back : (c : CheckpointParts) (cuts : CutsParts) (old new : ℤ) → TakesCheckpoint bytes c → faulty_end ending (inputs_of c) ≡ None
      → end_after ending c ≡ Upto cuts → first_fall (cuts_of c) cuts ≡ Some (old, new)
      → RefusesToGoOn name ending bytes (cut_back old new)

-- the rows of each input start after what the checkpoint has of it, and before the session ends
abbrev pub later_bounds : Cut → CheckpointParts → ℕ → Bounds
later_bounds cut c = bounds_in (all_after cut c.series)

-- what is printed newly by cuts, with the spelling of the checkpoint there, which is saved under a name
abbrev pub resumed_by : List ℕ → CutsParts → CheckpointParts → List (List Snapshot) → Outcome
resumed_by save cuts c rows = printed_and_saved (lines_of (newly c rows (Upto cuts))) save (spelling (next c rows cuts))

-- the lines of what is printed newly; if the session ends by cuts, its checkpoint is saved
abbrev pub resumed : Option SavedCutValue → CheckpointParts → List (List Snapshot) → Outcome
resumed None c rows = printed (lines_of (newly c rows End))
resumed (Some cut) c rows = resumed_by cut.save (cuts_by cut.upto (inputs_of c)) c rows

-- the spelling of a checkpoint under the name, if there are both
abbrev pub saved_of : Option SavedCutValue → Option CheckpointParts → Option SaveValue
saved_of None next = None
saved_of (Some cut) None = None
saved_of (Some cut) (Some c) = Some (record { name = cut.save; bytes = spelling c })

-- what the session is, with the checkpoint file of a name
abbrev pub resume_row : Option SavedCutValue → List ℕ → FileCommand
resume_row ending checkpoint = record {
  Says = CheckpointParts;
  takes = GoesOn ending;
  refuses = RefusesToGoOn checkpoint ending;
  inputs = inputs_of;
  within = λ c. later_bounds (end_after ending c) c;
  gives = λ c rows outcome. outcome ≡ resumed ending c rows;
}
