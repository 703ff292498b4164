-- A shelf over the files of the standard library.
use Rattle.std.specs.Prelude.{ℕ}

-- how often a read and how often a save has failed, and how many bytes the reads have given
pub record DiskCounts : Type 0 where
  pub read_faults : ℕ
  pub save_faults : ℕ
  pub given : ℕ
