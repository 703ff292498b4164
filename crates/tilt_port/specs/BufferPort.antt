-- A port that keeps what is written to it.
use Rattle.std.specs.Prelude.{ℕ, false, List, []}
use Rattle.tilt_port.specs.Transcript.{Transcript}

-- what was written, and the faults so far
pub record BufferState : Type 0 where
  pub written : List ℕ
  pub read_faults : ℕ
  pub write_faults : ℕ

-- nothing is read from it, and nothing is held back
abbrev pub transcript_of : BufferState → Transcript
transcript_of port = record {
  read = [];
  written = port.written;
  held_back = 0;
  asked = [];
  ended = false;
  read_faults = port.read_faults;
  write_faults = port.write_faults;
}
