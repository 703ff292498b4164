-- What is reported if a query file in units gives no query: the status that the program exits with, and one line (our own rule).
use Rattle.std.specs.Prelude.{ℕ, List, ◌++◌, codes}
use Rattle.std.specs.Fmt.{decimal}
use Rattle.tilt_report.specs.Report.{Report, refusal, out_of_memory, bad_byte, big_number, bad_statement, too_many_statements}
use Rattle.tilt_report.specs.Report.{line_of, report_of, report_of_check, report_of_syntax, status_of}
use Rattle.tilt_report.specs.declared.refusal.StatementFault.TheVariants as statement
use Rattle.tilt_unit_load.specs.declared.fault.UnitFileFault.{UnitFileFault}
use Rattle.tilt_unit_load.specs.declared.fault.UnitFileFault.TheVariants.{BadPoint, ManyDecimals, TicksWithPoint, BadStatement, OutputScale}
use Rattle.tilt_unit_load.specs.declared.fault.UnitLoadFault.{UnitLoadFault}
use Rattle.tilt_unit_load.specs.declared.fault.UnitLoadFault.TheVariants.{Shared, Own}
use Rattle.tilt_unit_load.specs.declared.fault.UnitStatementFault.{UnitStatementFault}
use Rattle.tilt_unit_load.specs.declared.fault.UnitStatementFault.TheVariants as unit
use Rattle.tilt_unit_text.specs.declared.fault.UnitFault.{UnitFault}
use Rattle.tilt_unit_text.specs.declared.fault.UnitFault.TheVariants as text
use Rattle.tilt_units.specs.declared.fault.ScaleFault.{ScaleFault}
use Rattle.tilt_units.specs.declared.fault.ScaleFault.TheVariants as scale

-- a fault that every command can have of a query file, or a fault of the units
pub data UnitReport : Type 0 where
  shared : Report → UnitReport
  own : UnitFileFault → UnitReport

abbrev pub unit_report : UnitLoadFault → UnitReport
unit_report (Shared fault) = shared (report_of fault)
unit_report (Own fault) = own fault

-- of a statement with this number that has no translation to whole numbers
abbrev pub report_of_scale : ℕ → ScaleFault → UnitReport
report_of_scale n (scale.UnknownSource place) = shared (refusal (bad_statement statement.UnknownName n))
report_of_scale n (scale.TypeMismatch place) = shared (refusal (bad_statement statement.TypeMismatch n))
report_of_scale n (scale.ScalesDiffer place) = own (BadStatement unit.ScalesDiffer n)
report_of_scale n (scale.LiteralNotWhole place) = own (BadStatement unit.LiteralNotWhole n)
report_of_scale n (scale.LiteralTooLarge place) = own (BadStatement unit.LiteralTooLarge n)
report_of_scale n (scale.ScaleTooLarge place) = own (BadStatement unit.ScaleTooLarge n)
report_of_scale n (scale.BodyTooLarge place) = own (BadStatement unit.TooLarge n)
report_of_scale n scale.TooManySources = shared (refusal too_many_statements)
report_of_scale n scale.OutOfMemory = shared out_of_memory

-- of a text that is no query in units: what `tilt` reports of a query, if it can have the fault too
abbrev pub report_of_units : UnitFault → UnitReport
report_of_units (text.BadByte at) = shared (refusal (bad_byte at))
report_of_units (text.BigNumber at) = shared (refusal (big_number at))
report_of_units (text.BadPoint at) = own (BadPoint at)
report_of_units (text.ManyDecimals at) = own (ManyDecimals at)
report_of_units (text.Syntax fault) = shared (report_of_syntax fault)
report_of_units (text.TicksWithPoint at) = own (TicksWithPoint at)
report_of_units (text.IllFormed fault) = shared (report_of_check fault)
report_of_units (text.Scale n fault) = report_of_scale n fault
report_of_units (text.WholeTooLarge n) = own (BadStatement unit.TooLarge n)
report_of_units (text.WholeTooLong n) = own (BadStatement unit.TooLong n)
report_of_units text.OutOfMemory = shared out_of_memory

-- what comes before the number of a statement, and after it
abbrev pub statement_front : UnitStatementFault → List ℕ
statement_front unit.ScalesDiffer = codes "tilt: 113 statement "
statement_front unit.LiteralNotWhole = codes "tilt: 114 statement "
statement_front unit.LiteralTooLarge = codes "tilt: 115 statement "
statement_front unit.ScaleTooLarge = codes "tilt: 116 statement "
statement_front unit.TooLarge = codes "tilt: 117 statement "
statement_front unit.TooLong = codes "tilt: 118 statement "

abbrev pub statement_back : UnitStatementFault → List ℕ
statement_back unit.ScalesDiffer = codes ": scales differ\n"
statement_back unit.LiteralNotWhole = codes ": literal not whole\n"
statement_back unit.LiteralTooLarge = codes ": literal too large\n"
statement_back unit.ScaleTooLarge = codes ": scale too large\n"
statement_back unit.TooLarge = codes ": too large over whole numbers\n"
statement_back unit.TooLong = codes ": too long over whole numbers\n"

-- what comes before the number of a fault, the number, and what comes after it
abbrev pub front_of : UnitFileFault → List ℕ
front_of (BadPoint at) = codes "tilt: 110 bad point at "
front_of (ManyDecimals at) = codes "tilt: 111 too many decimals at "
front_of (TicksWithPoint at) = codes "tilt: 112 ticks with a point at "
front_of (BadStatement fault n) = statement_front fault
front_of (OutputScale scale) = codes "tilt: 119 output scale "

abbrev pub number_in : UnitFileFault → ℕ
number_in (BadPoint at) = at
number_in (ManyDecimals at) = at
number_in (TicksWithPoint at) = at
number_in (BadStatement fault n) = n
number_in (OutputScale scale) = scale

abbrev pub back_of : UnitFileFault → List ℕ
back_of (BadPoint at) = codes "\n"
back_of (ManyDecimals at) = codes "\n"
back_of (TicksWithPoint at) = codes "\n"
back_of (BadStatement fault n) = statement_back fault
back_of (OutputScale scale) = codes "\n"

-- the line that is reported
abbrev pub line_of_units : UnitReport → List ℕ
line_of_units (shared report) = line_of report
line_of_units (own fault) = front_of fault ++ (decimal (number_in fault) ++ back_of fault)

-- and the status
abbrev pub status_of_units : UnitReport → ℕ
status_of_units (shared report) = status_of report
status_of_units (own fault) = 1
