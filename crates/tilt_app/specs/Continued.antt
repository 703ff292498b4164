-- What sessions hand on, and how the next one goes on from it, by what is written and saved.
use Rattle.std.specs.Prelude.{◌≡◌, ◌++◌, ⊤, List, ℕ, Option, None, Some}
use Rattle.tilt_app.specs.Change.{ShelfChange, SinkChange}
use Rattle.tilt_app.specs.Saving.{IsSaved}
use Rattle.tilt_checkpoint.specs.Cuts.{CutsParts}
use Rattle.tilt_printed.specs.Saving.{SaveValue, outcome_of}
use Rattle.tilt_report.specs.Report.{Outcome}
use Rattle.tilt_commands.specs.HandsOn.{HandsOn, IsBegun, IsBeyond}
use Rattle.tilt_commands.specs.SavedCut.{SavedCutValue}
use Rattle.tilt_stream.specs.Snap.{Snapshot}
use Rattle.tilt_syntax.specs.Tree.{StatementTree}
use Rattle.tilt_cli.specs.Binding.{Binding}
use Rattle.tilt_cli.specs.Command.{CommandValue, start, resume_upto, resume_end}

-- what was written, and saved if something is, is such an outcome
pub record IsLeft (is_outcome : Outcome → Type 0) (shelf : ShelfChange) (out : SinkChange) : Type 0 where
  pub text : List ℕ
  pub save : Option SaveValue
  pub outcome : is_outcome (outcome_of text save)
  pub written : out.tells → out.new ≡ out.old ++ text
  pub saved : IsSaved shelf save

-- a session after a checkpoint, whichever rows the checkpoint is of. What was written is what one session prints on all rows, beyond what
-- one session prints on the earlier ones. What was saved is the checkpoint of all rows
abbrev pub GoesBeyond : List ℕ → List Binding → Option SavedCutValue → ShelfChange → SinkChange → Type 0
GoesBeyond checkpoint binds ending shelf out =
    (query : List StatementTree) (rows : List (List Snapshot)) (cuts : CutsParts) → HandsOn (shelf.held checkpoint) query rows cuts
    → IsLeft (IsBeyond shelf.held binds query rows cuts ending) shelf out

-- a first session saved the checkpoint of the rows that it was handed, and a later one goes beyond the sessions before it
abbrev pub IsContinued : ShelfChange → SinkChange → CommandValue → Type 0
IsContinued shelf out (start query binds plain upto save) =
    IsLeft (IsBegun shelf.held query binds (record { upto = upto; save = save })) shelf out
IsContinued shelf out (resume_upto checkpoint binds plain upto save) =
    GoesBeyond checkpoint binds (Some (record { upto = upto; save = save })) shelf out
IsContinued shelf out (resume_end checkpoint binds plain) = GoesBeyond checkpoint binds None shelf out
IsContinued shelf out command = ⊤

-- the same of an outcome, before it is written and saved
abbrev pub Continues : (List ℕ → List ℕ) → CommandValue → Outcome → Type 0
Continues files (start query binds plain upto save) outcome =
    IsBegun files query binds (record { upto = upto; save = save }) outcome
Continues files (resume_upto checkpoint binds plain upto save) outcome =
    (query : List StatementTree) (rows : List (List Snapshot)) (cuts : CutsParts) → HandsOn (files checkpoint) query rows cuts
    → IsBeyond files binds query rows cuts (Some (record { upto = upto; save = save })) outcome
Continues files (resume_end checkpoint binds plain) outcome =
    (query : List StatementTree) (rows : List (List Snapshot)) (cuts : CutsParts) → HandsOn (files checkpoint) query rows cuts
    → IsBeyond files binds query rows cuts None outcome
Continues files command outcome = ⊤
