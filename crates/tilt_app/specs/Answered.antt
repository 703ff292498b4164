-- What the result of a command says, by its row.
use Rattle.std.specs.Prelude.{◌≡◌, List, Result, IfOk, IfErr}
use Rattle.tilt_app.specs.Outcome.{Saves, Shows, Streams}
use Rattle.tilt_commands.specs.LastFile.{DoesLast}
use Rattle.tilt_commands.specs.Table.{Row, reads, reads_last, makes, row_of}
use Rattle.tilt_load.specs.Does.{Does, Reading}
use Rattle.tilt_printed.specs.Answer.{Fits, comes_to}
use Rattle.tilt_printed.specs.declared.answered.Answered.{Answered}
use Rattle.tilt_report.specs.Report.{Outcome, out_of_memory, report_of}
use Rattle.tilt_report.specs.declared.fault.Fault.{Fault}
use Rattle.tilt_watch.specs.Watch.{Watch}
use Rattle.tilt_cli.specs.Command.{CommandValue}

-- a command that reads nothing was done: the result gives its outcome and keeps a property, or it ran out of memory
pub record Makes (is_outcome : Outcome → Type 0) (keeps : Answered → Type 0) (shelf : Reading) (result : Result Answered Fault)
    : Type 0 where
  pub made : IfOk result (λ answer. (watchers : List Watch) → is_outcome (comes_to watchers answer))
  pub kept : IfOk result keeps
  pub fault : IfErr result (λ fault. report_of fault ≡ out_of_memory)
  pub given : shelf.given_after ≡ shelf.given_before
  pub rest : shelf.rest

-- a row was done
abbrev pub DoesRow : Row → (Answered → Type 0) → Reading → Result Answered Fault → Type 0
DoesRow (reads file binds command) keeps shelf result = Does command comes_to keeps file binds shelf result
DoesRow (reads_last file binds last command) keeps shelf result = DoesLast command comes_to keeps file binds last shelf result
DoesRow (makes is_outcome) keeps shelf result = Makes is_outcome keeps shelf result

-- a command was done, and it gives its text out by a pipe, shows snapshots, and saves exactly if it is to
abbrev pub IsAnswered : CommandValue → Reading → Result Answered Fault → Type 0
IsAnswered command shelf result =
    DoesRow (row_of command) (Fits (Streams command) (Shows command) (Saves command)) shelf result
