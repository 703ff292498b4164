-- The rows of a whole run, taken apart where sessions end, each by one cut for all inputs (our own rule).
use Rattle.std.specs.Prelude.{◌≡◌, ℕ, ℤ, List, [], ◌∷◌, length, map, Ok, Bool, true, if◌then◌else◌, int_lt, Option, None, Some}
use Rattle.tilt_checkpoint.specs.Spelling.{spelling}
use Rattle.tilt_checkpoint.specs.Valid.{IsCheckpoint}
use Rattle.tilt_checkpoint.specs.Cuts.{same_cuts}
use Rattle.tilt_session.specs.Emitted.{emitted}
use Rattle.tilt_session.specs.Kept.{checkpoint_at}
use Rattle.tilt_session.specs.declared.cut.Cut.{Cut}
use Rattle.tilt_session.specs.declared.cut.Cut.TheVariants.{Upto, End}
use Rattle.tilt_stream.specs.Snap.{Snapshot}
use Rattle.tilt_syntax.specs.Tree.{StatementTree}
use Rattle.tilt_types.specs.Checked.{checked}
use Rattle.tilt_core.specs.Core.{CoreParts}
use Rattle.tilt_syntax.specs.Query.{IsQuery}

-- whether a row starts before a cut, where there is one
abbrev pub is_early : Option ℤ → Snapshot → Bool
is_early (Some cut) row = int_lt row.start cut
is_early None row = true

-- the first rows, which start before the cut
abbrev pub early : Option ℤ → List Snapshot → List Snapshot
early cut [] = []
early cut (row ∷ rows) = if is_early cut row then row ∷ early cut rows else []

-- the rows after those that start before a tick
abbrev pub behind : ℤ → List Snapshot → List Snapshot
behind cut [] = []
behind cut (row ∷ rows) = if int_lt row.start cut then behind cut rows else row ∷ rows

-- the rows after those of earlier sessions, where there were any
abbrev pub left_by : Option ℤ → List Snapshot → List Snapshot
left_by None rows = rows
left_by (Some cut) rows = behind cut rows

-- the rows of a session: those after the rows of earlier sessions that start before its cut
abbrev pub part_of : Option ℤ → Option ℤ → List Snapshot → List Snapshot
part_of from cut rows = early cut (left_by from rows)

-- a query that is well formed, with its core, and its rows, one list for each input
pub record IsRun (query : List StatementTree) (core : CoreParts) (rows : List (List Snapshot)) : Type 0 where
  pub parsed : IsQuery query
  pub well_formed : checked query ≡ Ok core
  pub counted : length rows ≡ length core.inputs

-- the rows that start before a cut, of each input
abbrev pub rows_before : ℤ → List (List Snapshot) → List (List Snapshot)
rows_before cut rows = map (early (Some cut)) rows

-- where a session on such rows ends: each input has that cut, where there is one
abbrev pub end_by : List (List Snapshot) → Option ℤ → Cut
end_by rows (Some cut) = Upto (same_cuts (length rows) cut)
end_by rows None = End

-- what sessions up to a cut have printed of a query, and the bytes that the last one handed on
pub record AreJoined (query : List StatementTree) (core : CoreParts) (rows : List (List Snapshot)) (cut : ℤ)
    (printed : List Snapshot) (bytes : List ℕ) : Type 0 where
  pub is_printed : printed ≡ emitted core (rows_before cut rows) (end_by rows (Some cut))
  pub handed_on : bytes ≡ spelling (checkpoint_at query (rows_before cut rows) (same_cuts (length rows) cut))
  pub valid : IsCheckpoint (checkpoint_at query (rows_before cut rows) (same_cuts (length rows) cut))
