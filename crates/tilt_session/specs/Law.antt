-- Sessions print together what one session prints (the theorem of sessions).
use Rattle.std.specs.Prelude.{◌≡◌, List, ◌++◌}
use Rattle.std.specs.List.{AllByRecursion}
use Rattle.tilt_stream.specs.Snap.{Snapshot, AreRows}
use Rattle.tilt_types.specs.Checked.{core_of}
use Rattle.tilt_checkpoint.specs.Checkpoint.{CheckpointParts, cuts_of}
use Rattle.tilt_checkpoint.specs.Cuts.{CutsParts}
use Rattle.tilt_session.specs.Emitted.{emitted}
use Rattle.tilt_session.specs.Kept.{checkpoint_at}
use Rattle.tilt_session.specs.Later.{newly, next}
use Rattle.tilt_session.specs.NewRows.{AreFirstRows, added}
use Rattle.tilt_session.specs.declared.cut.Cut.{Cut}
use Rattle.tilt_session.specs.declared.cut.Cut.TheVariants.{Upto}

-- a checkpoint is that of rows in order
pub record IsCheckpointOf (c : CheckpointParts) (rows : List (List Snapshot)) : Type 0 where
  pub in_order : AllByRecursion AreRows rows
  pub first : AreFirstRows (core_of c.query) (Upto (cuts_of c)) rows
  pub is : c ≡ checkpoint_at c.query rows (cuts_of c)

-- whichever rows a checkpoint is of: what was printed by then and what is printed newly is what one session prints on all rows, and
-- both leave the same checkpoint
pub record IsOneCut (c : CheckpointParts) (new : List (List Snapshot)) (cut : Cut) : Type 0 where
  pub printed : (rows : List (List Snapshot)) → IsCheckpointOf c rows
      → emitted (core_of c.query) (added rows new) cut ≡ emitted (core_of c.query) rows (Upto (cuts_of c)) ++ newly c new cut
  pub left : (rows : List (List Snapshot)) (upto : CutsParts) → IsCheckpointOf c rows → cut ≡ Upto upto
      → checkpoint_at c.query (added rows new) upto ≡ next c new upto
