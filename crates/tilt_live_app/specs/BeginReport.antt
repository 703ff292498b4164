-- What is reported if a feed isn't begun: the status that the program exits with, and a line (our own rule).
use Rattle.std.specs.Prelude.{ℕ, List, ◌++◌, codes}
use Rattle.tilt_live_app.specs.declared.unbegun.Unbegun.{Unbegun}
use Rattle.tilt_live_app.specs.declared.unbegun.Unbegun.TheVariants.{InUnits, NoInput, NoZone, Shared}
use Rattle.tilt_reading_options.specs.declared.fault.FormFault.{FormFault}
use Rattle.tilt_reading_options.specs.declared.fault.FormFault.TheVariants as form
use Rattle.tilt_report.specs.Report.{Report, line_of, out_of_memory, report_of, status_of}
use Rattle.tilt_unit_check.specs.declared.fault.CheckFault.{CheckFault}
use Rattle.tilt_unit_check.specs.declared.fault.CheckFault.TheVariants.{Unloaded}
use Rattle.tilt_unit_check.specs.declared.fault.CheckFault.TheVariants as unit_check
use Rattle.tilt_unit_load.specs.UnitReport.{UnitReport, line_of_units, status_of_units, unit_report}
use Rattle.tilt_unit_load.specs.UnitReport as units
use Rattle.tilt_unit_load.specs.declared.fault.UnitFileFault.{UnitFileFault}

-- a fault of all commands, or of a query in units; a name in an option that is no input; or the name of a zone without a table
pub data BeginReport : Type 0 where
  shared : Report → BeginReport
  in_units : UnitFileFault → BeginReport
  no_input : (name : List ℕ) → BeginReport
  no_zone : (name : List ℕ) → BeginReport

-- a fault of a file in units, as one of these
abbrev pub begin_of_units : UnitReport → BeginReport
begin_of_units (units.shared report) = shared report
begin_of_units (units.own fault) = in_units fault

abbrev pub begin_report : Unbegun → BeginReport
begin_report (Shared fault) = shared (report_of fault)
begin_report (InUnits fault) = begin_of_units (unit_report fault)
begin_report (NoInput name) = no_input name
begin_report (NoZone name) = no_zone name.now

-- why a query isn't checked
abbrev pub report_of_check : CheckFault → BeginReport
report_of_check (Unloaded fault) = begin_of_units (unit_report fault)
report_of_check (unit_check.NoInput name) = no_input name

-- why scales have no form
abbrev pub report_of_form : FormFault → BeginReport
report_of_form (form.NoInput name) = no_input name
report_of_form form.OutOfMemory = shared out_of_memory

-- the line
abbrev pub line_of_begin : BeginReport → List ℕ
line_of_begin (shared report) = line_of report
line_of_begin (in_units fault) = line_of_units (units.own fault)
line_of_begin (no_input name) = codes "tilt: 66 no input " ++ (name ++ codes "\n")
line_of_begin (no_zone name) = codes "tilt: 67 no zone " ++ (name ++ codes "\n")

-- and the status
abbrev pub status_of_begin : BeginReport → ℕ
status_of_begin (shared report) = status_of report
status_of_begin (in_units fault) = status_of_units (units.own fault)
status_of_begin (no_input name) = 1
status_of_begin (no_zone name) = 1
