-- Calls that are sessions of one run: the first starts it, each later one goes on from what the one before it saved, and the last one
-- ends it.
use Rattle.std.specs.Prelude.{◌≡◌, ◌++◌, ⊤, ℕ, List, [], ◌∷◌, Bool, Option, None, Some}
use Rattle.std.specs.List.{AllByRecursion}
use Rattle.tilt_app.specs.Change.{ShelfChange, SinkChange}
use Rattle.tilt_app.specs.Continued.{IsContinued}
use Rattle.tilt_app.specs.Outcome.{IsOutcome}
use Rattle.tilt_core.specs.Meaning.{output_of}
use Rattle.tilt_load.specs.QueryFile.{TakesQuery}
use Rattle.tilt_load.specs.SeriesFiles.{TakesInputs, TakesSession}
use Rattle.tilt_report.specs.Report.{printed}
use Rattle.tilt_series.specs.Series.{Bounds}
use Rattle.tilt_session.specs.NewRows.{added}
use Rattle.tilt_stream.specs.Snap.{Snapshot}
use Rattle.tilt_stream.specs.Text.{text_of}
use Rattle.tilt_core.specs.Core.{CoreParts}
use Rattle.tilt_watch.specs.Watch.{Watch}
use Rattle.tilt_cli.specs.Binding.{Binding}
use Rattle.tilt_cli.specs.Command.{CommandValue, IsCommand, run, start, resume_upto, resume_end}

-- a call that exited with status 0: its command, what each name held before it and holds after it, and the text that it wrote
pub record SessionCall : Type 0 where
  pub command : CommandValue
  pub held : List ℕ → List ℕ
  pub holds : List ℕ → List ℕ
  pub text : List ℕ

-- what it left of files and of an output that report what they hold
abbrev pub shelf_of : SessionCall → ShelfChange
shelf_of call = record {
  tells = ⊤;
  held = call.held;
  holds = call.holds;
  reads_before = 0;
  reads_after = 0;
  saves_before = 0;
  saves_after = 0;
  given_before = 0;
  given_after = 0;
  took = λ name n. ⊤;
  takes = λ name n. ⊤;
  only_read = ⊤;
}

abbrev pub out_of : SessionCall → SinkChange
out_of call = record {
  tells = ⊤;
  old = [];
  new = call.text;
  before = 0;
  after = 0;
  took = λ n. ⊤;
  takes = λ n. ⊤;
  held_back = 0;
  kept = ⊤;
}

-- what the promise's `continued` says of it
abbrev pub DidContinue : SessionCall → Type 0
DidContinue call = IsContinued (shelf_of call) (out_of call) call.command

-- the name under which a session saves its checkpoint, and the name of the checkpoint file after which it goes on
abbrev pub saved_name : CommandValue → Option (List ℕ)
saved_name (start query binds plain upto save) = Some save
saved_name (resume_upto checkpoint binds plain upto save) = Some save
saved_name command = None

abbrev pub checkpoint_name : CommandValue → Option (List ℕ)
checkpoint_name (resume_upto checkpoint binds plain upto save) = Some checkpoint
checkpoint_name (resume_end checkpoint binds plain) = Some checkpoint
checkpoint_name command = None

-- the next call goes on after a file that holds what this one saved
pub record HandsTo (call next : SessionCall) : Type 0 where
  pub save : List ℕ
  pub checkpoint : List ℕ
  pub saves : saved_name call.command ≡ Some save
  pub resumes : checkpoint_name next.command ≡ Some checkpoint
  pub same : next.held checkpoint ≡ call.holds save

-- each call hands on to the next one, and the last one goes on to the last row
abbrev pub AreHandedOn : SessionCall → List SessionCall → Type 0
AreHandedOn call [] = (checkpoint : List ℕ) × (binds : List Binding) × (plain : Bool) × (call.command ≡ resume_end checkpoint binds plain)
AreHandedOn call (next ∷ more) = HandsTo call next × AreHandedOn next more

-- the inputs' files of a call hold these rows, which it reads within some bounds
pub record IsReadBy (call : SessionCall) (binds : List Binding) (inputs : List (List ℕ)) (rows : List (List Snapshot)) : Type 0 where
  pub bounds : ℕ → Bounds
  pub read : TakesSession call.held binds bounds inputs rows

-- the query file of a first session
abbrev pub query_name : CommandValue → List ℕ
query_name (start query binds plain upto save) = query
query_name command = []

-- the binds of a session
abbrev pub binds_of : CommandValue → List Binding
binds_of (start query binds plain upto save) = binds
binds_of (resume_upto checkpoint binds plain upto save) = binds
binds_of (resume_end checkpoint binds plain) = binds
binds_of command = []

-- after such rows, the calls read more: together these
abbrev pub AreRead : List (List ℕ) → List (List Snapshot) → List SessionCall → List (List Snapshot) → Type 0
AreRead inputs rows [] all = all ≡ rows
AreRead inputs rows (call ∷ calls) all =
    (new : List (List Snapshot)) × IsReadBy call (binds_of call.command) inputs new × AreRead inputs (added rows new) calls all

-- what calls wrote, joined
abbrev pub texts_of : List SessionCall → List ℕ
texts_of [] = []
texts_of (call ∷ calls) = call.text ++ texts_of calls

-- the calls are sessions of one run
pub record AreSessions (first : SessionCall) (calls : List SessionCall) : Type 0 where
  pub saves : List ℕ
  pub starts : checkpoint_name first.command ≡ None
  pub saved : saved_name first.command ≡ Some saves
  pub continued : AllByRecursion DidContinue (first ∷ calls)
  pub on : AreHandedOn first calls

-- together they are one run: the query of the first call's file, on all rows that the calls read, gives a list. What they wrote, joined,
-- is the text of that list. `run` prints this text wherever files hold that query and those rows
pub record IsOneRun (first : SessionCall) (calls : List SessionCall) : Type 0 where
  pub core : CoreParts
  pub rows : List (List Snapshot)
  pub all : List (List Snapshot)
  pub list : List Snapshot
  pub says : TakesQuery (first.held (query_name first.command)) core
  pub first_read : IsReadBy first (binds_of first.command) core.inputs rows
  pub read : AreRead core.inputs rows calls all
  pub gives : output_of core all ≡ Some list
  pub joined : texts_of (first ∷ calls) ≡ text_of list
  pub run_prints : (words : List (List ℕ)) (files : List ℕ → List ℕ) (query : List ℕ) (binds : List Binding) (plain : Bool)
      (watchers : List Watch) → IsCommand words (run query binds plain []) → TakesQuery (files query) core
      → TakesInputs files binds core.inputs all → IsOutcome words files watchers (printed (texts_of (first ∷ calls)))
