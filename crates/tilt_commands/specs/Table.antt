-- The table of commands: what each of them does. A command on the file of a name is a row here, in `Start` or in `Resume`.
use Rattle.std.specs.Prelude.{◌≡◌, ◌++◌, not, List, [], ◌∷◌, ℕ, ℤ, Bool, Ok, Some, None}
use Rattle.tilt_bounds.specs.Margins.{MarginsParts, margins_of}
use Rattle.tilt_code.specs.Code.{CodeParts}
use Rattle.tilt_code.specs.Listing.{listing}
use Rattle.tilt_code.specs.Run.{run_of}
use Rattle.tilt_commands.specs.Divided.{IsParted, RefusesParts, TakesParts}
use Rattle.tilt_commands.specs.Fixed.{fix_row}
use Rattle.tilt_commands.specs.Query.{IsMadeOfQuery, lone_row, query_row}
use Rattle.tilt_compiler.specs.Compiled.{IsCodeOf}
use Rattle.tilt_core.specs.Core.{CoreParts}
use Rattle.tilt_core.specs.Meaning.{output_of}
use Rattle.tilt_explain.specs.Explain.{explained}
use Rattle.tilt_load.specs.CodeFile.{TakesCode, RefusesCode}
use Rattle.tilt_load.specs.FileCommand.{FileCommand}
use Rattle.tilt_load.specs.FlowFile.{TakesFlow, RefusesFlow}
use Rattle.tilt_load.specs.QueryFile.{TakesQuery}
use Rattle.tilt_load.specs.SeriesFiles.{no_bounds}
use Rattle.tilt_made.specs.Generator.{first_rows, second_rows}
use Rattle.tilt_made.specs.Summary.{summary_text}
use Rattle.tilt_made.specs.TryQuery.{query_text}
use Rattle.tilt_operators.specs.Flow.{FlowTree}
use Rattle.tilt_operators.specs.Inputs.{inputs_of}
use Rattle.tilt_operators.specs.Lists.{flow_list}
use Rattle.tilt_pipe.specs.Rings.{most_ever}
use Rattle.tilt_printed.specs.Figures.{watched_text}
use Rattle.tilt_printed.specs.Rings.{rings_line}
use Rattle.tilt_report.specs.Report.{Outcome, printed}
use Rattle.tilt_commands.specs.Resume.{resume_row}
use Rattle.tilt_commands.specs.Start.{start_row}
use Rattle.tilt_stream.specs.Snap.{Snapshot}
use Rattle.tilt_stream.specs.Snapshots.{snapshots}
use Rattle.tilt_stream.specs.Stream.{stream_of}
use Rattle.tilt_stream.specs.Text.{text_of}
use Rattle.tilt_watch.specs.Watch.{Watch}
use Rattle.tilt_cli.specs.Binding.{Binding}
use Rattle.tilt_cli.specs.Command.{CommandValue, run, compile, exec, explain, start, resume_upto, resume_end, pipe, watch, parts}
use Rattle.tilt_cli.specs.Command.{flow, fix, try}

-- `run` on the query in the file of a name prints the text of the snapshots of the query's meaning on its output domain
abbrev pub run_row : List ℕ → FileCommand
run_row query = query_row query (IsMadeOfQuery (λ list. printed (text_of list)))

-- the outcome is the listing of the query's code
abbrev pub IsCompiled : Bool → CoreParts → Outcome → Type 0
IsCompiled fuse core outcome = (code : CodeParts) × IsCodeOf core fuse code × (outcome ≡ printed (listing code))

-- `compile` of the query in the file of a name, with fusion or without, prints the listing of the query's code on its output domain
abbrev pub compile_row : List ℕ → Bool → FileCommand
compile_row query fuse = lone_row query (IsCompiled fuse)

-- `exec` of the code in the file of a name prints the text of the run of the code
abbrev pub exec_row : List ℕ → FileCommand
exec_row file = record {
  Says = CodeParts;
  takes = TakesCode;
  refuses = RefusesCode file;
  inputs = λ code. code.inputs;
  within = λ code place. no_bounds;
  gives = λ code rows outcome. outcome ≡ printed (text_of (run_of code rows));
}

-- the outcome is the lines on the query and its plan
abbrev pub IsExplained : CoreParts → Outcome → Type 0
IsExplained core outcome = (margins : MarginsParts) × (margins_of core ≡ Ok margins) × (outcome ≡ printed (explained core margins))

-- `explain` of the query in the file of a name prints how far the query looks and how it is planned
abbrev pub explain_row : List ℕ → FileCommand
explain_row query = lone_row query IsExplained

-- The outcome is the text of the snapshots of the query's meaning on its output domain, and then a line. The line says the most that
-- the rings of its code ever hold.
pub record IsPiped (fuse : Bool) (core : CoreParts) (rows : List (List Snapshot)) (outcome : Outcome) : Type 0 where
  pub list : List Snapshot
  pub code : CodeParts
  pub means : output_of core rows ≡ Some list
  pub code_is : IsCodeOf core fuse code
  pub is : outcome ≡ printed (text_of list ++ rings_line (most_ever code rows))

-- `pipe` on the query in the file of a name, with fusion or without, prints what `run` prints, and then that line
abbrev pub pipe_row : List ℕ → Bool → FileCommand
pipe_row query fuse = query_row query (IsPiped fuse)

-- `watch` on the query in the file of a name, beside these watchers, prints what `run` prints, and then their figures
abbrev pub watch_row : List ℕ → List Watch → FileCommand
watch_row query watchers = query_row query (IsMadeOfQuery (λ list. printed (watched_text watchers list)))

-- `parts` on the query in the file of a name, with these cuts and in this order of steps, prints what `run` prints. Then it prints
-- the line of how many snapshots come from each part.
abbrev pub parts_row : List ℕ → List ℤ → List ℕ → FileCommand
parts_row query cuts order = record {
  Says = CoreParts;
  takes = TakesParts cuts order;
  refuses = RefusesParts query cuts order;
  inputs = λ core. core.inputs;
  within = λ core place. no_bounds;
  gives = IsParted cuts;
}

-- the text of what a pipeline gives by lists, as snapshots on its domain
abbrev pub flow_text : FlowTree → List (List Snapshot) → List ℕ
flow_text tree rows = text_of (snapshots (stream_of (flow_list tree rows)) tree.domain.start tree.domain.end)

-- `flow` on the pipeline in the file of a name prints the text of what the pipeline gives
abbrev pub flow_row : List ℕ → FileCommand
flow_row file = record {
  Says = FlowTree;
  takes = TakesFlow;
  refuses = RefusesFlow file;
  inputs = inputs_of;
  within = λ tree place. no_bounds;
  gives = λ tree rows outcome. outcome ≡ printed (flow_text tree rows);
}

-- the rows that `try` makes, of both inputs
abbrev pub made_inputs : ℕ → ℕ → List (List Snapshot)
made_inputs seed count = first_rows seed count ∷ second_rows seed count ∷ []

-- `try` prints a summary: its query is taken, and the summary is that of the snapshots of the query's meaning on its output domain
pub data IsTryOutcome (seed count : ℕ) : Outcome → Type 0 where
  summed : (core : CoreParts) (list : List Snapshot) → TakesQuery (query_text count) core
      → output_of core (made_inputs seed count) ≡ Some list → IsTryOutcome seed count (printed (summary_text count list))

-- What a command does. It reads a file and the files of its binds, and is such a command with these watchers. Or it reads a file, the files
-- of its binds and a last one, and is such a command by what the last one holds. Or it reads nothing, and this is its outcome.
pub data Row : Type 1 where
  reads : (file : List ℕ) (binds : List Binding) (command : List Watch → FileCommand) → Row
  reads_last : (file : List ℕ) (binds : List Binding) (last : List ℕ) (command : List ℕ → FileCommand) → Row
  makes : (is_outcome : Outcome → Type 0) → Row

-- the row of each command
abbrev pub row_of : CommandValue → Row
row_of (run query binds plain cuts) = reads query binds (λ watchers. run_row query)
row_of (compile query plain) = reads query [] (λ watchers. compile_row query (not plain))
row_of (exec code binds) = reads code binds (λ watchers. exec_row code)
row_of (explain query) = reads query [] (λ watchers. explain_row query)
row_of (start query binds plain upto save) = reads query binds (λ watchers. start_row (record { upto = upto; save = save }) query)
row_of (resume_upto checkpoint binds plain upto save) =
    reads checkpoint binds (λ watchers. resume_row (Some (record { upto = upto; save = save })) checkpoint)
row_of (resume_end checkpoint binds plain) = reads checkpoint binds (λ watchers. resume_row None checkpoint)
row_of (pipe query binds plain) = reads query binds (λ watchers. pipe_row query (not plain))
row_of (watch query binds plain) = reads query binds (watch_row query)
row_of (parts query binds plain at order) = reads query binds (λ watchers. parts_row query at order)
row_of (flow file binds plain) = reads file binds (λ watchers. flow_row file)
row_of (fix query binds plain edits) = reads_last query binds edits (fix_row query edits)
row_of (try seed count) = makes (IsTryOutcome seed count)
