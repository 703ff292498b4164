-- The query in a file with the rows of its inputs, whatever a command then makes of them.
use Rattle.std.specs.Prelude.{◌≡◌, List, ℕ, Ok, length, Result, IfOk, IfErr}
use Rattle.tilt_commands.specs.Query.{query_row}
use Rattle.tilt_commands.specs.declared.loaded.LoadedRun.{LoadedRun}
use Rattle.tilt_load.specs.Does.{IsRead, IsUndone, Reading}
use Rattle.tilt_load.specs.FileCommand.{FileCommand}
use Rattle.tilt_load.specs.QueryFile.{TakesQuery}
use Rattle.tilt_load.specs.SeriesFiles.{TakesInputs}
use Rattle.tilt_report.specs.Report.{report_of}
use Rattle.tilt_report.specs.declared.fault.Fault.{Fault}
use Rattle.tilt_syntax.specs.Query.{IsQuery}
use Rattle.tilt_types.specs.Checked.{checked}
use Rattle.tilt_cli.specs.Binding.{Binding}

-- a command on the query in the file of a name that has no outcome on any rows: it has errors, and turns
abbrev pub refusing_row : List ℕ → FileCommand
refusing_row query = query_row query (λ core rows outcome. ⊥)

-- the query and the rows were read, or why not, which is the same for all commands on queries
pub record Loads (query : List ℕ) (binds : List Binding) (shelf : Reading) (result : Result LoadedRun Fault) : Type 0 where
  pub taken : shelf.tells → IfOk result (λ run. TakesQuery (shelf.files query) run.accepted.core)
  pub inputs : shelf.tells → IfOk result (λ run. TakesInputs shelf.files binds run.accepted.core.inputs run.rows.items)
  pub many : IfOk result (λ run. length run.rows.items ≡ length run.accepted.core.inputs)
  pub valid : IfOk result (λ run. IsQuery run.query)
  pub accepted : IfOk result (λ run. checked run.query ≡ Ok run.accepted.core)
  pub fault : IfErr result (λ fault. IsUndone (refusing_row query) query binds shelf (report_of fault))
  pub read : shelf.tells → IfOk result (λ _. IsRead (refusing_row query) query binds shelf)
  pub rest : shelf.rest
