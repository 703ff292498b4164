-- What the program does if it checks a query in units (our own rule).
use Rattle.std.specs.Prelude.{◌≡◌, ℕ, List, ◌++◌, codes, None, Some}
use Rattle.std.specs.Global.{Vec}
use Rattle.tilt_input_scales.specs.Scales.{ScalesValue}
use Rattle.tilt_live_app.specs.BeginReport.{line_of_begin, report_of_check, status_of_begin}
use Rattle.tilt_live_app.specs.Change.{ShelfChange}
use Rattle.tilt_serving.specs.Reported.{Reported}
use Rattle.tilt_outside.specs.Faults.{Rose}
use Rattle.tilt_outside.specs.Written.{AppendsFront}
use Rattle.tilt_port.specs.Transcript.{Transcript}
use Rattle.tilt_report.specs.Report.{line_of, write_fault}
use Rattle.tilt_unit_check.specs.Check.{IsChecked, IsUnchecked}
use Rattle.tilt_unit_check.specs.declared.check.Checked.{Checked}
use Rattle.tilt_unit_check.specs.declared.fault.CheckFault.{CheckFault}
use Rattle.tilt_unit_report.specs.declared.bound.InputBound.{InputBound}

-- the line that names the definition that can leave 64 bits
abbrev pub unsafe_line : List ℕ → List ℕ
unsafe_line definition = codes "tilt: 120 can leave 64 bits: " ++ (definition ++ codes "\n")

-- a text was written and handed on
pub record IsHandedOn (tells : Type 0) (old new : Transcript) (text : List ℕ) : Type 0 where
  pub written : tells → new.written ≡ old.written ++ text
  pub handed_on : new.held_back ≡ 0

-- The port before and after, and what a sink of reports says.
module _ {K : Type 0} (tells : Type 0) (old new : Transcript) (err_tells : Type 0) (err_written : K → List ℕ) (err_faults : K → ℕ) where
  -- What was found was printed: its text and, if a definition can leave 64 bits, its name. Or the text couldn't be written
  pub data HasPrintedCheck (found : Checked) (err err_then : K) : ℕ → Type 0 where
    safe : found.can_leave ≡ None → IsHandedOn tells old new found.text.items → err_then ≡ err → HasPrintedCheck found err err_then 0
    unsafe_at : (definition : Vec ℕ) → found.can_leave ≡ Some definition → IsHandedOn tells old new found.text.items
        → Reported err_tells err_written err_faults err err_then (unsafe_line definition.items) → HasPrintedCheck found err err_then 1
    unwritten : (tells → AppendsFront old.written new.written found.text.items) → Rose old.write_faults new.write_faults
        → Reported err_tells err_written err_faults err err_then (line_of write_fault) → HasPrintedCheck found err err_then 4

  -- The shelf before and after, the file of the query, and what is known of its inputs.
  module _ (shelf : ShelfChange) (name : List ℕ) (scales : ScalesValue) (bounds : List InputBound) where
    -- The file wasn't checked, and that is reported. Or it was, and what was found is printed
    pub data HasDoneCheck (err err_then : K) : ℕ → Type 0 where
      unchecked : (fault : CheckFault) → IsUnchecked scales bounds shelf.tells name (shelf.held name) shelf.reads_before shelf.reads_after fault
          → new ≡ old → Reported err_tells err_written err_faults err err_then (line_of_begin (report_of_check fault))
          → HasDoneCheck err err_then (status_of_begin (report_of_check fault))
      checked : {status : ℕ} (found : Checked) → (shelf.tells → IsChecked scales bounds (shelf.held name) found)
          → HasPrintedCheck found err err_then status → HasDoneCheck err err_then status
