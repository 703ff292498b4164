-- A sink in memory that never fails.
use Rattle.std.specs.Prelude.{◌-◌, ℕ, List, ◌++◌, length}

-- what was written, and how many bytes it still takes
pub record SinkRoom : Type 0 where
  pub written : List ℕ
  pub room : ℕ

-- the sink after a write
abbrev pub after_put : SinkRoom → List ℕ → SinkRoom
after_put sink piece = record { written = sink.written ++ piece; room = sink.room - length piece }
