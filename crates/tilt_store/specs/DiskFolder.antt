-- What a contract sees of a folder on the disk.
use Rattle.std.specs.Prelude.{ℕ}

-- how often a call has failed
pub record DiskFaults : Type 0 where
  pub faults : ℕ
