-- What an edits file gives: edits of the rows of inputs, or the first reason why it has none.
use Rattle.std.specs.Prelude.{◌<◌, ◌≤◌, List, ℕ, length}
use Rattle.tilt_base.specs.declared.limits.TheConstants.{FILE}
use Rattle.tilt_edits.specs.Edits.{AreEdits, IsBadLine}
use Rattle.tilt_edits.specs.declared.edit.Edit.{Edit}
use Rattle.tilt_report.specs.Report.{Reason, file_too_long, bad_edit}

-- the text is no longer than a file may be, and it says these edits of inputs with these names
pub record TakesEdits (inputs : List (List ℕ)) (bytes : List ℕ) (edits : List Edit) : Type 0 where
  pub short : length bytes ≤ FILE
  pub said : AreEdits inputs bytes edits

-- why the edits file of a name is rejected: it is too long, or a line is no edit
pub data RefusesEdits (inputs : List (List ℕ)) (name bytes : List ℕ) : Reason → Type 0 where
  long : FILE < length bytes → RefusesEdits inputs name bytes (file_too_long name)
  line : (number : ℕ) → length bytes ≤ FILE → IsBadLine inputs bytes number → RefusesEdits inputs name bytes (bad_edit number)
