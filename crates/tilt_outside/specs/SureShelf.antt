-- A shelf in memory that never fails.
use Rattle.std.specs.Prelude.{ℕ, List}
use Rattle.tilt_outside.specs.HeldFiles.{HeldFile}

-- what is held, and how many bytes the reads have given
pub record SureFiles : Type 0 where
  pub files : List HeldFile
  pub given : ℕ
