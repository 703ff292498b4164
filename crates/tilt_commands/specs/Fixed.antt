-- The outcome of `fix`: a query on rows that are edited.
use Rattle.std.specs.Prelude.{◌≡◌, ℕ, List, Ok}
use Rattle.tilt_bounds.specs.Margins.{MarginsParts, margins_of}
use Rattle.tilt_commands.specs.Corrections.{IsCorrected}
use Rattle.tilt_commands.specs.Query.{query_row}
use Rattle.tilt_core.specs.Core.{CoreParts}
use Rattle.tilt_edits.specs.declared.edit.Edit.{Edit}
use Rattle.tilt_load.specs.EditsFile.{TakesEdits, RefusesEdits}
use Rattle.tilt_load.specs.FileCommand.{FileCommand}
use Rattle.tilt_report.specs.Report.{Reason, Outcome, refused, refusal}
use Rattle.tilt_stream.specs.Snap.{Snapshot}

-- Of a query on rows, if the edits file of that name has these bytes: the file is rejected. Or it says edits, and the query with these edits has the outcome.
pub data IsFixed (name bytes : List ℕ) (core : CoreParts) (rows : List (List Snapshot)) : Outcome → Type 0 where
  no_edits : (why : Reason) → RefusesEdits core.inputs name bytes why → IsFixed name bytes core rows (refused (refusal why))
  with_edits : {outcome : Outcome} (edits : List Edit) (margins : MarginsParts) → TakesEdits core.inputs bytes edits
      → margins_of core ≡ Ok margins → IsCorrected core margins rows edits outcome → IsFixed name bytes core rows outcome

-- `fix` on the query in the file of a name, with the edits file of another, which has these bytes
abbrev pub fix_row : List ℕ → List ℕ → List ℕ → FileCommand
fix_row query name bytes = query_row query (IsFixed name bytes)
