-- Why a status that isn't 0 comes, and what holds after it.
use Rattle.std.specs.Prelude.{◌≡◌, ◌⊎◌, ◌++◌, ⊤, List, ℕ, Option, Some}
use Rattle.tilt_app.specs.Change.{ShelfChange, SinkChange}
use Rattle.tilt_app.specs.Saving.{IsUnsaved}
use Rattle.tilt_outside.specs.Faults.{Rose}
use Rattle.tilt_outside.specs.Written.{AppendsFront}
use Rattle.tilt_printed.specs.Saving.{SaveValue, outcome_of}
use Rattle.tilt_report.specs.Report.{Outcome, refused, Report, usage, refusal, read_fault, write_fault, save_fault, out_of_memory}

-- Of what is to be done: which outcome it has, and whose turn it is to be read; and what the call leaves of the shelf.
module _ (is_outcome : Outcome → Type 0) (has_turn : List ℕ → Type 0) (shelf : ShelfChange) where
  -- why nothing is printed: a read fault only if its count rose, and each refusal only if it is the outcome
  abbrev pub IsUnanswered : Report → Type 0
  IsUnanswered usage = is_outcome (refused usage)
  IsUnanswered (refusal why) = shelf.tells → is_outcome (refused (refusal why))
  IsUnanswered (read_fault name) = Rose shelf.reads_before shelf.reads_after × has_turn name
  IsUnanswered write_fault = ⊥
  IsUnanswered (save_fault name) = ⊥
  IsUnanswered out_of_memory = ⊤

  -- And what it leaves of the output.
  module _ (out : SinkChange) where
    -- a text is what is printed, if the shelf reports what it holds, and a prefix of the text was written
    pub record IsCutShort (text : List ℕ) (save : Option SaveValue) : Type 0 where
      pub outcome : shelf.tells → is_outcome (outcome_of text save)
      pub front : out.tells → AppendsFront out.old out.new text

    -- a text is what is printed, and it was written whole, but the save after it failed
    pub record IsUnfinished (text : List ℕ) (save : SaveValue) : Type 0 where
      pub outcome : shelf.tells → is_outcome (outcome_of text (Some save))
      pub written : out.tells → out.new ≡ out.old ++ text
      pub unsaved : IsUnsaved shelf save

    -- out of memory: nothing was written, or a text is what is printed and a prefix of it was
    abbrev pub IsShortOfMemory : Type 0
    IsShortOfMemory = (out.tells → out.new ≡ out.old) ⊎ ((text : List ℕ) × (save : Option SaveValue) × IsCutShort text save)

    -- why this is reported: the same. A write fault comes only if the fault count of the output rose, and a save fault only if the
    -- save-fault count of the shelf rose. Out of memory comes with what was written by then
    abbrev pub IsCause : Report → Type 0
    IsCause write_fault = Rose out.before out.after × ((text : List ℕ) × (save : Option SaveValue) × IsCutShort text save)
    IsCause (save_fault name) = Rose shelf.saves_before shelf.saves_after
        × ((text : List ℕ) × (bytes : List ℕ) × IsUnfinished text (record { name = name; bytes = bytes }))
    IsCause out_of_memory = IsShortOfMemory
    IsCause report = IsUnanswered report

-- a save failed
abbrev pub IsSaveFault : Report → Type 0
IsSaveFault (save_fault name) = ⊤
IsSaveFault report = ⊥

-- the line was written, if the sink reports it, or a prefix of it if the count of faults rose
abbrev pub IsLineWritten : SinkChange → List ℕ → Type 0
IsLineWritten err line =
    err.tells → (err.new ≡ err.old ++ line) ⊎ (AppendsFront err.old err.new line × Rose err.before err.after)
