-- What makes the clauses of a command on a query: from the query and the rows that were loaded.
use Rattle.std.proofs.Common.{◌≡◌, ◌++◌, Bool, List, [], ℕ, length, Option, None, Some, Result, Ok, Err, refl, ap, arith}
use Rattle.std.specs.Prelude.{◌↔◌, IsSome}
use Rattle.tilt_code.specs.Run.{run_of}
use Rattle.tilt_commands.specs.Loaded.{Loads, refusing_row}
use Rattle.tilt_commands.specs.Query.{lone_row, query_row}
use Rattle.tilt_commands.specs.Table.{IsPiped}
use Rattle.tilt_commands.specs.declared.loaded.LoadedRun.{LoadedRun}
use Rattle.tilt_compiler.specs.Compiled.{IsCodeOf}
use Rattle.tilt_core.specs.Core.{CoreParts}
use Rattle.tilt_core.specs.Meaning.{output_of}
use Rattle.tilt_load.proofs.FileCommands.{file_undone}
use Rattle.tilt_load.proofs.Loads.{load_fault_weaker}
use Rattle.tilt_load.specs.Does.{Does, IsRead, IsUndone, Reading}
use Rattle.tilt_load.specs.FileCommand.{IsFileOutcome, no_file, no_inputs, done, HasFileTurn, own_turn, input_turn}
use Rattle.tilt_load.specs.Load.{IsLoadFault}
use Rattle.tilt_load.specs.QueryFile.{TakesQuery, RefusesQuery}
use Rattle.tilt_outside.specs.Counts.{added_count}
use Rattle.tilt_pipe.specs.Rings.{most_ever}
use Rattle.tilt_pipe.specs.Value.{PipeParts}
use Rattle.tilt_printed.specs.Answer.{Fits}
use Rattle.tilt_printed.specs.Rings.{rings_line, rings_text}
use Rattle.tilt_printed.specs.Show.{shown_of}
use Rattle.tilt_printed.specs.Text.{IsFresh, IsStreamed}
use Rattle.tilt_printed.specs.declared.printed.Printed.{Printed}
use Rattle.tilt_report.specs.Report.{Outcome, printed, refused, Report, refusal, report_of, out_of_memory}
use Rattle.tilt_report.specs.declared.fault.Fault.{Fault}
use Rattle.tilt_stream.specs.Snap.{Snapshot}
use Rattle.tilt_stream.specs.Text.{text_of}
use Rattle.tilt_cli.specs.Binding.{Binding}

-- The outcome of a command on a query.
module _ (query : List ℕ) (gives : CoreParts → List (List Snapshot) → Outcome → Type 0) where
  -- its refusals are those of all commands on queries
  refusal_any : (files : List ℕ → List ℕ) (file : List ℕ) (binds : List Binding) (o : Outcome) → IsFileOutcome (refusing_row query) files file binds o
      → IsFileOutcome (query_row query gives) files file binds o
  refusal_any files file binds o (no_file why is) = no_file why is
  refusal_any files file binds o (no_inputs core why taken is) = no_inputs core why taken is
  refusal_any files file binds o (done core rows taken read nothing) = absurd nothing

  -- and its turns
  pub turn_any : (tells : Type 0) (files : List ℕ → List ℕ) (file : List ℕ) (binds : List Binding) (name : List ℕ)
      → HasFileTurn (refusing_row query) tells files file binds name → HasFileTurn (query_row query gives) tells files file binds name
  turn_any tells files file binds name own_turn = own_turn
  turn_any tells files file binds name (input_turn bind among next) =
      input_turn bind among (λ t. let n = next t in record { says = n.says; taken = n.taken; input = n.input })

  pub undone_any : (file : List ℕ) (binds : List Binding) (shelf : Reading) (report : Report) → IsUndone (refusing_row query) file binds shelf report
      → IsUndone (query_row query gives) file binds shelf report
  undone_any file binds shelf report fault =
      load_fault_weaker shelf.tells shelf.tells (λ why. IsFileOutcome (refusing_row query) shelf.files file binds (refused (refusal why)))
      (λ why. IsFileOutcome (query_row query gives) shelf.files file binds (refused (refusal why)))
      (HasFileTurn (refusing_row query) shelf.tells shelf.files file binds) (HasFileTurn (query_row query gives) shelf.tells shelf.files file binds)
      shelf.faults_before shelf.faults_after shelf.faults_before shelf.faults_after (λ t. t)
      (λ why t is. refusal_any shelf.files file binds (refused (refusal why)) is)
      (λ name rose turn. (rose, turn_any shelf.tells shelf.files file binds name turn)) report fault

  read_any : (file : List ℕ) (binds : List Binding) (shelf : Reading) → IsRead (refusing_row query) file binds shelf → IsRead (query_row query gives) file binds shelf
  read_any file binds shelf read = record {
    count = read.count;
    bytes = record { says = read.bytes.says; taken = read.bytes.taken; is = read.bytes.is };
    given = read.given;
  }

module _ {T W : Type 0} (query : List ℕ) (gives : W → CoreParts → List (List Snapshot) → Outcome → Type 0) (comes : W → T → Outcome) (keeps : T → Type 0)
    (binds : List Binding) (shelf : Reading) where
  -- the query or the rows weren't loaded
  pub does_undone : (fault : Fault) (told : Result T Fault) → told ≡ Err fault → Loads query binds shelf (Err fault)
      → Does (λ w. query_row query (gives w)) comes keeps query binds shelf told
  does_undone fault told same loads = rw same (record {
    made = λ t. tt;
    kept = tt;
    fault = λ w. undone_any query (gives w) query binds shelf (report_of fault) loads.fault;
    read = λ t. tt;
    rest = loads.rest;
  })

  -- it was made
  pub does_made : (run : LoadedRun) (x : T) → ((w : W) → gives w run.accepted.core run.rows.items (comes w x)) → keeps x
      → Loads query binds shelf (Ok run) → Does (λ w. query_row query (gives w)) comes keeps query binds shelf (Ok x)
  does_made run x is fits loads = record {
    made = λ t w. done run.accepted.core run.rows.items (loads.taken t) (loads.inputs t) (is w);
    kept = fits;
    fault = λ w. tt;
    read = λ t w. read_any query (gives w) query binds shelf (loads.read t);
    rest = loads.rest;
  }

-- A command on a query alone.
module _ {T W : Type 0} (query : List ℕ) (gives : W → CoreParts → Outcome → Type 0) (comes : W → T → Outcome) (keeps : T → Type 0) (shelf : Reading) where
  -- the query wasn't loaded
  pub lone_undone : (fault : Fault) (told : Result T Fault) → told ≡ Err fault
      → IsLoadFault shelf.tells (RefusesQuery query (shelf.files query)) (λ which. which ≡ query) shelf.faults_before shelf.faults_after (report_of fault) → shelf.rest
      → Does (λ w. lone_row query (gives w)) comes keeps query [] shelf told
  lone_undone fault told same is rest = rw same (record {
    made = λ t. tt;
    kept = tt;
    fault = λ w. file_undone (lone_row query (gives w)) query [] shelf (report_of fault) is;
    read = λ t. tt;
    rest = rest;
  })

  lone_read : (w : W) (core : CoreParts) → TakesQuery (shelf.files query) core → shelf.given_after ≡ added_count shelf.given_before (length (shelf.files query))
      → IsRead (lone_row query (gives w)) query [] shelf
  lone_read w core taken given = record {
    count = length (shelf.files query);
    bytes = record { says = core; taken = taken; is = omega arith };
    given = given;
  }

  -- it was made
  pub lone_made : (core : CoreParts) (x : T) → (shelf.tells → TakesQuery (shelf.files query) core)
      → (shelf.tells → shelf.given_after ≡ added_count shelf.given_before (length (shelf.files query))) → shelf.rest → ((w : W) → gives w core (comes w x)) → keeps x
      → Does (λ w. lone_row query (gives w)) comes keeps query [] shelf (Ok x)
  lone_made core x taken given rest is fits = record {
    made = λ t w. done core [] (taken t) (record { names = refl; read = refl }) (is w);
    kept = fits;
    fault = λ w. tt;
    read = λ t w. lone_read w core (taken t) (given t);
    rest = rest;
  }

-- nothing is shown
pub none_shown : (shown : Option (List Snapshot)) → shown ≡ None → IsSome shown ↔ ⊥
none_shown None is = (λ some. cc some, λ no. absurd no)
none_shown (Some list) is = absurd (cc is)

-- what is printed, where nothing is saved
pub fits_unsaved : (streams shows : Type 0) (text : Printed) → IsFresh text → IsStreamed text ↔ streams → IsSome (shown_of text) ↔ shows
    → Fits streams shows ⊥ (record { printed = text; save = None })
fits_unsaved streams shows text fresh streamed shown =
    record { fresh = fresh; streamed = streamed; shown = shown; saved = (λ some. cc some, λ no. absurd no) }

-- a pipe of a query prints what `pipe` prints
pub pipe_made : (fuse : Bool) (core : CoreParts) (rows : List (List Snapshot)) (pipe : PipeParts) → IsCodeOf core fuse pipe.code → pipe.inputs ≡ rows
    → output_of core rows ≡ Some (run_of pipe.code pipe.inputs) → IsPiped fuse core rows (printed (rings_text pipe.code pipe.inputs))
pipe_made fuse core rows pipe code inputs means = record {
  list = run_of pipe.code pipe.inputs;
  code = pipe.code;
  means = means;
  code_is = code;
  is = ap (λ (r : List (List Snapshot)). printed (text_of (run_of pipe.code pipe.inputs) ++ rings_line (most_ever pipe.code r))) inputs;
}
