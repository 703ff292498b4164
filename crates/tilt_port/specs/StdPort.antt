-- A port over a reader and a writer of the standard library.
use Rattle.std.specs.Prelude.{ℕ, false, List, [], Option, Result, Ok, Err}
use Rattle.tilt_outside.specs.Counts.{added_count, next_count}
use Rattle.tilt_outside.specs.declared.failed.Failed.{Failed}
use Rattle.tilt_port.specs.Transcript.{Transcript}

-- the bytes that are left to read, if the reader is known to have them, and the bytes that were written, if the writer is known to hold
-- them. How many are held back, and how many were written by writes that didn't fail. How often a read, and how often a write or a flush,
-- has failed
pub record StdPortState : Type 0 where
  pub remaining : Option (List ℕ)
  pub contents : Option (List ℕ)
  pub held_back : ℕ
  pub written : ℕ
  pub read_faults : ℕ
  pub write_faults : ℕ

-- of what went through the port only the counts, and how many bytes are held back
abbrev pub counts_of : StdPortState → Transcript
counts_of port = record {
  read = [];
  written = [];
  held_back = port.held_back;
  asked = [];
  ended = false;
  read_faults = port.read_faults;
  write_faults = port.write_faults;
}

-- a count of faults after a call: one higher if it failed
abbrev pub faults_after : {T : Type 0} → ℕ → Result T Failed → ℕ
faults_after before (Ok value) = before
faults_after before (Err failed) = next_count before

-- a count of written bytes after a write of so many: higher by them unless it failed
abbrev pub written_after : {T : Type 0} → ℕ → ℕ → Result T Failed → ℕ
written_after before count (Ok value) = added_count before count
written_after before count (Err failed) = before
