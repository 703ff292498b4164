-- What a checkpoint file gives: a checkpoint, or the first reason why it is none.
use Rattle.std.specs.Prelude.{◌<◌, ◌≤◌, List, ℕ, length}
use Rattle.tilt_base.specs.declared.limits.TheConstants.{FILE}
use Rattle.tilt_checkpoint.specs.Checkpoint.{CheckpointParts}
use Rattle.tilt_checkpoint.specs.Spelling.{Spells}
use Rattle.tilt_checkpoint.specs.Valid.{IsCheckpoint}
use Rattle.tilt_report.specs.Report.{Reason, file_too_long, bad_checkpoint}

-- the text is no longer than a file may be, and it spells this checkpoint, which is valid
pub record TakesCheckpoint (bytes : List ℕ) (c : CheckpointParts) : Type 0 where
  pub short : length bytes ≤ FILE
  pub valid : IsCheckpoint c
  pub spelled : Spells bytes c

-- why the checkpoint file of a name is rejected: it is too long, or else it spells no valid checkpoint
pub data RefusesCheckpoint (name bytes : List ℕ) : Reason → Type 0 where
  long : FILE < length bytes → RefusesCheckpoint name bytes (file_too_long name)
  of_none : length bytes ≤ FILE → ((c : CheckpointParts) → IsCheckpoint c → ¬ (Spells bytes c))
      → RefusesCheckpoint name bytes bad_checkpoint
