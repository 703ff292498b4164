-- What a session hands on to the next one, and how that one goes on beyond it.
use Rattle.std.specs.Prelude.{◌≡◌, ◌++◌, ⊤, ℕ, List, Option, Some, None}
use Rattle.std.specs.List.{AllByRecursion}
use Rattle.tilt_checkpoint.specs.Cuts.{CutsParts}
use Rattle.tilt_checkpoint.specs.Spelling.{Spells, spelling}
use Rattle.tilt_checkpoint.specs.Valid.{IsAccepted, IsCell, IsCheckpoint}
use Rattle.tilt_session.specs.Cuts.{IsInRange, IsOnward}
use Rattle.tilt_session.specs.Emitted.{emitted}
use Rattle.tilt_session.specs.Kept.{checkpoint_at}
use Rattle.tilt_session.specs.NewRows.{AreFirstRows, added}
use Rattle.tilt_session.specs.declared.cut.Cut.{Cut}
use Rattle.tilt_session.specs.declared.cut.Cut.TheVariants.{Upto}
use Rattle.tilt_load.specs.SeriesFiles.{TakesSession}
use Rattle.tilt_report.specs.Report.{Outcome, printed, printed_and_saved}
use Rattle.tilt_commands.specs.Resume.{later_bounds}
use Rattle.tilt_commands.specs.SavedCut.{SavedCutValue, cut_of, faulty_end}
use Rattle.tilt_commands.specs.Start.{StartsBy, cuts_at, first_bounds, started}
use Rattle.tilt_stream.specs.Snap.{Snapshot, AreRows}
use Rattle.tilt_stream.specs.Text.{lines_of}
use Rattle.tilt_syntax.specs.Tree.{StatementTree}
use Rattle.tilt_types.specs.Checked.{core_of}
use Rattle.tilt_cli.specs.Binding.{Binding}

-- an accepted query, and rows that one session of it may be handed: in order, their numbers of 64 bits, and each starting before the
-- session ends
pub record AreHanded (query : List StatementTree) (rows : List (List Snapshot)) (cut : Cut) : Type 0 where
  pub accepted : IsAccepted query
  pub range : IsInRange cut
  pub in_order : AllByRecursion AreRows rows
  pub cells : AllByRecursion (AllByRecursion (λ row. IsCell row.value)) rows
  pub first : AreFirstRows (core_of query) cut rows

-- the bytes spell the checkpoint that one session leaves of a query and all rows up to cuts, and that checkpoint is valid
pub record HandsOn (bytes : List ℕ) (query : List StatementTree) (rows : List (List Snapshot)) (cuts : CutsParts) : Type 0 where
  pub handed : AreHanded query rows (Upto cuts)
  pub valid : IsCheckpoint (checkpoint_at query rows cuts)
  pub text : Spells bytes (checkpoint_at query rows cuts)

-- the outcome of a first session: files give the query and the rows, and what is saved hands them on
pub record IsBegun (files : List ℕ → List ℕ) (file : List ℕ) (binds : List Binding) (cut : SavedCutValue) (outcome : Outcome) : Type 0 where
  pub query : List StatementTree
  pub rows : List (List Snapshot)
  pub says : StartsBy cut.upto (files file) query
  pub read : TakesSession files binds (first_bounds (cuts_at cut query).each) (core_of query).inputs rows
  pub hands_on : HandsOn (spelling (checkpoint_at query rows (cuts_at cut query))) query rows (cuts_at cut query)
  pub is : outcome ≡ started cut query rows

-- where a session after others of a query ends
abbrev pub end_of : Option SavedCutValue → List StatementTree → Cut
end_of ending query = cut_of ending (core_of query).inputs

-- the lines of what is printed beyond; if the session ends by cuts, the text of the checkpoint of all rows is saved
abbrev pub beyond_outcome : Option SavedCutValue → List StatementTree → List (List Snapshot) → List Snapshot → Outcome
beyond_outcome None query all beyond = printed (lines_of beyond)
beyond_outcome (Some cut) query all beyond =
    printed_and_saved (lines_of beyond) cut.save (spelling (checkpoint_at query all (cuts_at cut query)))

-- if a session ends by cuts, what it saves hands all rows on
abbrev pub IsHandedOn : Option SavedCutValue → List StatementTree → List (List Snapshot) → Type 0
IsHandedOn None query all = ⊤
IsHandedOn (Some cut) query all = HandsOn (spelling (checkpoint_at query all (cuts_at cut query))) query all (cuts_at cut query)

-- The outcome of a session that goes on after sessions on these rows, up to cuts. There are more rows, which files give. One session
-- prints on all rows what one session prints on the earlier ones, and then what is printed beyond. What is saved hands all rows on.
pub record IsBeyond (files : List ℕ → List ℕ) (binds : List Binding) (query : List StatementTree) (rows : List (List Snapshot))
    (cuts : CutsParts) (ending : Option SavedCutValue) (outcome : Outcome) : Type 0 where
  pub more : List (List Snapshot)
  pub beyond : List Snapshot
  pub named : faulty_end ending (core_of query).inputs ≡ None
  pub onward : IsOnward cuts (end_of ending query)
  pub read : TakesSession files binds (later_bounds (end_of ending query) (checkpoint_at query rows cuts)) (core_of query).inputs more
  pub handed : AreHanded query (added rows more) (end_of ending query)
  pub hands_on : IsHandedOn ending query (added rows more)
  pub adds : emitted (core_of query) (added rows more) (end_of ending query) ≡ emitted (core_of query) rows (Upto cuts) ++ beyond
  pub is : outcome ≡ beyond_outcome ending query (added rows more) beyond
