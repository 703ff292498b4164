-- What is reported if a feed isn't served into a folder: the status that the program exits with, and at most one line (our own rule).
use Rattle.std.specs.Prelude.{ℕ, List, [], ◌++◌, codes}
use Rattle.tilt_exactly_once.specs.declared.failure.Failure.{Failure}
use Rattle.tilt_exactly_once.specs.declared.failure.Failure.TheVariants.{Halted, Unstarted}
use Rattle.tilt_exactly_once.specs.declared.halt.Halt.{Halt}
use Rattle.tilt_exactly_once.specs.declared.halt.Halt.TheVariants as halt
use Rattle.tilt_exactly_once.specs.declared.refusal.Refusal.TheVariants as reject
use Rattle.tilt_exactly_once.specs.declared.refusal.StartError.{StartError}
use Rattle.tilt_exactly_once.specs.declared.refusal.StartError.TheVariants as start
use Rattle.tilt_live_app.specs.declared.folder_end.FolderEnd.{FolderEnd}
use Rattle.tilt_live_app.specs.declared.folder_end.FolderEnd.TheVariants.{BadLine, Own, Shared}
use Rattle.tilt_live_app.specs.declared.folder_end.FolderFault.{FolderFault}
use Rattle.tilt_live_app.specs.declared.folder_end.FolderFault.TheVariants as fault
use Rattle.tilt_report.specs.Report.{Report, bad_state, line_of, other_options, other_query, out_of_memory, read_fault, refusal, report_of}
use Rattle.tilt_report.specs.Report.{save_fault, status_of}
use Rattle.tilt_store.specs.declared.enter_error.EnterError.{EnterError}
use Rattle.tilt_store.specs.declared.enter_error.EnterError.TheVariants as enter
use Rattle.tilt_store.specs.declared.folder_error.FolderError.TheVariants as folder
use Rattle.tilt_store.specs.declared.open_error.OpenError.{OpenError}
use Rattle.tilt_store.specs.declared.open_error.OpenError.TheVariants as opening

-- a bad line, which was reported when it came; a fault of all commands; or one of folders
pub data FolderReport : Type 0 where
  bad_line : FolderReport
  shared : Report → FolderReport
  own : FolderFault → FolderReport

-- of an end
abbrev pub end_value : FolderEnd → FolderReport
end_value BadLine = bad_line
end_value (Shared fault) = shared (report_of fault)
end_value (Own fault) = own fault

-- a folder of that name isn't given
abbrev pub end_of_entering : List ℕ → EnterError → FolderReport
end_of_entering name enter.InUse = own fault.InUse
end_of_entering name enter.Failed = shared (save_fault name)
end_of_entering name enter.OutOfMemory = shared out_of_memory

-- it isn't opened
abbrev pub end_of_opening : List ℕ → OpenError → FolderReport
end_of_opening name opening.OutOfMemory = shared out_of_memory
end_of_opening name opening.Failed = shared (save_fault name)
end_of_opening name opening.OutputWithoutState = own fault.NoState
end_of_opening name opening.BrokenState = shared (refusal bad_state)
end_of_opening name opening.OutputTooShort = own fault.CutOutput

-- nothing was read
abbrev pub end_of_start : List ℕ → StartError → FolderReport
end_of_start name (start.Unopened why) = end_of_opening name why
end_of_start name (start.Unwritten folder.Failed) = shared (save_fault name)
end_of_start name (start.Unwritten folder.OutOfMemory) = shared out_of_memory
end_of_start name start.OutOfMemory = shared out_of_memory
end_of_start name (start.Rejected reject.NotAState) = shared (refusal bad_state)
end_of_start name (start.Rejected reject.OtherQuery) = shared (refusal other_query)
end_of_start name (start.Rejected reject.OtherOptions) = shared (refusal other_options)
end_of_start name (start.Rejected reject.OutOfMemory) = shared out_of_memory
end_of_start name start.Stateless = shared (refusal bad_state)

-- something halted the feed
abbrev pub end_of_halt : List ℕ → Halt → FolderReport
end_of_halt name halt.BadLine = bad_line
end_of_halt name halt.TooLong = own fault.TooLong
end_of_halt name halt.OutOfMemory = shared out_of_memory
end_of_halt name halt.ReadFault = shared (read_fault (codes "-"))
end_of_halt name halt.Failed = shared (save_fault name)
end_of_halt name halt.Gap = own fault.Gap
end_of_halt name halt.Short = own fault.ShortFeed
end_of_halt name halt.Changed = own fault.ChangedFeed

-- either
abbrev pub end_of : List ℕ → Failure → FolderReport
end_of name (Unstarted error) = end_of_start name error
end_of name (Halted why) = end_of_halt name why

-- the number and the words of a fault of folders
abbrev pub front_of : FolderFault → List ℕ
front_of fault.InUse = codes "tilt: 60 folder in use: "
front_of fault.NoState = codes "tilt: 61 output without state: "
front_of fault.CutOutput = codes "tilt: 62 output too short: "
front_of fault.Gap = codes "tilt: 63 feed starts too late: "
front_of fault.ShortFeed = codes "tilt: 64 feed ends too early: "
front_of fault.TooLong = codes "tilt: 65 feed too long: "
front_of fault.ChangedFeed = codes "tilt: 68 feed has changed: "

-- the line that reports the end for a folder of that name
abbrev pub line_of_end : List ℕ → FolderReport → List ℕ
line_of_end name bad_line = []
line_of_end name (shared report) = line_of report
line_of_end name (own fault) = front_of fault ++ (name ++ codes "\n")

-- and the status
abbrev pub status_of_end : FolderReport → ℕ
status_of_end bad_line = 1
status_of_end (shared report) = status_of report
status_of_end (own fault) = 1
