-- Why a text isn't written whole, as it is reported.
use Rattle.tilt_printed.specs.declared.unput.Unput.{Unput}
use Rattle.tilt_printed.specs.declared.unput.Unput.TheVariants.{Failed, OutOfMemory}
use Rattle.tilt_report.specs.Report.{Report, write_fault, out_of_memory}

-- why a text wasn't written whole
abbrev pub report_of_unput : Unput → Report
report_of_unput Failed = write_fault
report_of_unput OutOfMemory = out_of_memory
