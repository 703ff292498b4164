-- Sinks over a writer of the standard library.
use Rattle.std.specs.Prelude.{ℕ, List, Option}

-- the bytes that were written, if the writer is known to hold them; how many are held back; and how often a write or a flush has failed
pub record WriterState : Type 0 where
  pub contents : Option (List ℕ)
  pub held_back : ℕ
  pub faults : ℕ
