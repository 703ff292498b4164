-- The checkpoint of a session (our own rule).
use Rattle.std.specs.Prelude.{ℤ, List, [], ◌∷◌}
use Rattle.tilt_stream.specs.Snap.{Snapshot, last_end}
use Rattle.tilt_syntax.specs.Tree.{StatementTree}
use Rattle.tilt_types.specs.Checked.{core_of}
use Rattle.tilt_checkpoint.specs.Checkpoint.{KeptParts, CheckpointParts}
use Rattle.tilt_checkpoint.specs.Cuts.{CutsParts}
use Rattle.tilt_checkpoint.specs.Decided.{frame_of, first_kept}
use Rattle.tilt_session.specs.Emitted.{open_at}
use Rattle.tilt_stream.specs.Pieces.{kept}
use Rattle.tilt_session.specs.declared.cut.Cut.TheVariants.{Upto}

-- what is kept at its cut of all rows of an input
abbrev pub kept_of : ℤ → ℤ → List Snapshot → KeptParts
kept_of first cut rows = record { cut = cut; last_end = last_end rows; rows = kept first rows }

-- and of each input
abbrev pub kept_each : ℤ → List ℤ → List (List Snapshot) → List KeptParts
kept_each first [] rows = []
kept_each first (cut ∷ cuts) [] = []
kept_each first (cut ∷ cuts) (rows ∷ more) = kept_of first cut rows ∷ kept_each first cuts more

-- the checkpoint of a query at cuts, where those are all rows so far
abbrev pub checkpoint_at : List StatementTree → List (List Snapshot) → CutsParts → CheckpointParts
checkpoint_at query rows cuts =
    let core = core_of query in
    record {
      query = query;
      cut = cuts.least;
      open_start = open_at core rows (Upto cuts);
      series = kept_each (first_kept (frame_of core) cuts.least) cuts.each rows;
    }
