-- What the first session of a query does, given its query file, its binds, its cuts and what each name holds.
use Rattle.std.specs.Prelude.{◌≡◌, ℕ, ℤ, List, map, None, Ok}
use Rattle.tilt_bounds.specs.Margins.{MarginsParts, margins_of}
use Rattle.tilt_checkpoint.specs.Cuts.{CutsParts}
use Rattle.tilt_checkpoint.specs.Spelling.{spelling}
use Rattle.tilt_session.specs.Emitted.{emitted}
use Rattle.tilt_session.specs.Kept.{checkpoint_at}
use Rattle.tilt_session.specs.declared.cut.Cut.TheVariants.{Upto}
use Rattle.tilt_load.specs.FileCommand.{FileCommand}
use Rattle.tilt_load.specs.InputCuts.{RefusesCuts, cuts_by, faulty_cut}
use Rattle.tilt_load.specs.QueryFile.{HasQuery, RefusesQuery}
use Rattle.tilt_load.specs.SeriesFiles.{bounds_in}
use Rattle.tilt_report.specs.Report.{Outcome, Reason, printed_and_saved}
use Rattle.tilt_series.specs.Series.{Bounds}
use Rattle.tilt_commands.specs.RowBounds.{before_cut}
use Rattle.tilt_commands.specs.SavedCut.{SavedCutValue}
use Rattle.tilt_stream.specs.Snap.{Snapshot}
use Rattle.tilt_stream.specs.Text.{text_of}
use Rattle.tilt_syntax.specs.Tree.{StatementTree}
use Rattle.tilt_types.specs.Checked.{core_of}
use Rattle.tilt_cli.specs.Upto.{UptoValue}

-- the text is exactly this query, which is well formed and looks no farther than a query may
pub record StartsFrom (bytes : List ℕ) (query : List StatementTree) : Type 0 where
  pub says : HasQuery bytes query (core_of query)
  pub margins : MarginsParts
  pub near : margins_of (core_of query) ≡ Ok margins

-- and the cuts are given to its inputs
pub record StartsBy (upto : UptoValue) (bytes : List ℕ) (query : List StatementTree) : Type 0 where
  pub starts : StartsFrom bytes query
  pub named : faulty_cut (core_of query).inputs upto ≡ None

-- why a first session isn't started with the query file of a name: the file is rejected, or else the cuts are
pub data RefusesToStart (name : List ℕ) (upto : UptoValue) (bytes : List ℕ) : Reason → Type 0 where
  no_query : {why : Reason} → RefusesQuery name bytes why → RefusesToStart name upto bytes why
  no_start : {why : Reason} (query : List StatementTree) → StartsFrom bytes query → RefusesCuts (core_of query).inputs upto why
      → RefusesToStart name upto bytes why

-- the rows of each input start before its cut
abbrev pub first_bounds : List ℤ → ℕ → Bounds
first_bounds cuts = bounds_in (map before_cut cuts)

-- the cuts of a query's inputs
abbrev pub cuts_at : SavedCutValue → List StatementTree → CutsParts
cuts_at cut query = cuts_by cut.upto (core_of query).inputs

-- the text of what is printed by the cuts, and the spelling of the checkpoint there, saved under the name
abbrev pub started : SavedCutValue → List StatementTree → List (List Snapshot) → Outcome
started cut query rows =
    printed_and_saved (text_of (emitted (core_of query) rows (Upto (cuts_at cut query)))) cut.save
    (spelling (checkpoint_at query rows (cuts_at cut query)))

-- what the first session is, with the query file of a name
abbrev pub start_row : SavedCutValue → List ℕ → FileCommand
start_row cut query = record {
  Says = List StatementTree;
  takes = StartsBy cut.upto;
  refuses = RefusesToStart query cut.upto;
  inputs = λ q. (core_of q).inputs;
  within = λ q. first_bounds (cuts_at cut q).each;
  gives = λ q rows outcome. outcome ≡ started cut q rows;
}
