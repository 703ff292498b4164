-- A port in memory.
use Rattle.std.specs.Prelude.{◌+◌, ◌-◌, ◌==◌, ◌/◌, ◌<◌, ◌≤◌, ◌≡◌, ◌⊎◌, ℕ, Bool, List, ◌++◌, ◌∷◌, []}
use Rattle.std.specs.Prelude.{find, length, map, min, nat_lt, take, unwrap_or, All, Contains}
use Rattle.tilt_outside.specs.Counts.{next_count}
use Rattle.tilt_port.specs.Transcript.{Moment, Transcript}
use Rattle.tilt_port.specs.declared.asked.Asked.{Asked}

-- the input with the places where it is cut, how many of its bytes were read, and whether the last read found the end. What was written,
-- how many of its bytes were handed on, and the moments at which more was read. How many bytes may still be written, and how many reads may
-- still be made. The faults and calls so far, and the numbers of the calls that are to fail
pub record PortState : Type 0 where
  pub input : List ℕ
  pub cuts : List ℕ
  pub read : ℕ
  pub ended : Bool
  pub written : List ℕ
  pub handed_on : ℕ
  pub asked : List Asked
  pub room : ℕ
  pub reads_left : ℕ
  pub read_faults : ℕ
  pub write_faults : ℕ
  pub calls : ℕ
  pub failing : List ℕ

-- the moment at which so many of these bytes had been read and written
abbrev pub moment_at : List ℕ → List ℕ → Asked → Moment
moment_at input written asked = record {
  read = take asked.read input;
  written = take asked.written written;
  held_back = asked.held_back;
}

-- what was read and written through the port
abbrev pub transcript_of : PortState → Transcript
transcript_of port = record {
  read = take port.read port.input;
  written = port.written;
  held_back = length port.written - port.handed_on;
  asked = map (moment_at port.input port.written) port.asked;
  ended = port.ended;
  read_faults = port.read_faults;
  write_faults = port.write_faults;
}

-- no more had been read and written at a moment than is there now
abbrev pub WasWithin : List ℕ → List ℕ → Asked → Type 0
WasWithin input written moment = (moment.read ≤ length input) × (moment.written ≤ length written)

-- no more was read than there is, cuts are within the input, and the moments are of what is there
pub record IsWithin (input places : List ℕ) (place : ℕ) (written : List ℕ) (asked : List Asked) : Type 0 where
  pub read : place ≤ length input
  pub cuts : All (λ cut. cut ≤ length input) places
  pub earlier : All (WasWithin input written) asked

-- where the next piece ends: at the first cut that lies beyond what was read, or at the end
abbrev pub next_end : List ℕ → List ℕ → ℕ → ℕ
next_end input cuts read = unwrap_or (find (λ cut. nat_lt read cut) cuts) (length input)

-- how many bytes the next read gives: the rest of the next piece, as far as it fits
abbrev pub count_read : PortState → ℕ → ℕ
count_read port room = min room (next_end port.input port.cuts port.read - port.read)

-- the next call fails if it reads: no more reads may be made, or its number is listed
abbrev pub ReadFails : PortState → Type 0
ReadFails port = (port.reads_left ≡ 0) ⊎ Contains port.failing (next_count port.calls)

-- the port after a read that gave so many bytes
abbrev pub after_read : PortState → ℕ → PortState
after_read port count = record port {
  read = port.read + count;
  ended = count == 0;
  asked = port.asked ++ record { read = port.read; written = length port.written; held_back = length port.written - port.handed_on } ∷ [];
  reads_left = port.reads_left - 1;
  calls = next_count port.calls;
}

-- the port after a read that failed
abbrev pub after_read_fault : PortState → PortState
after_read_fault port = record port { read_faults = next_count port.read_faults; calls = next_count port.calls }

-- the next call fails if it writes that piece: it has no room, or its number is listed
abbrev pub WriteFails : PortState → List ℕ → Type 0
WriteFails port piece = (port.room < length piece) ⊎ Contains port.failing (next_count port.calls)

-- the port after a write that took so many bytes of the piece
abbrev pub after_write : PortState → List ℕ → PortState
after_write port piece = record port {
  written = port.written ++ piece;
  room = port.room - length piece;
  calls = next_count port.calls;
}

-- how many bytes a write that fails takes: half of the piece, as far as there is room
abbrev pub taken_at_fault : PortState → List ℕ → ℕ
taken_at_fault port piece = min (length piece / 2) port.room

-- the port after a write that failed
abbrev pub after_write_fault : PortState → List ℕ → PortState
after_write_fault port piece = record (after_write port (take (taken_at_fault port piece) piece)) {
  write_faults = next_count port.write_faults;
}

-- the next call fails if it flushes: its number is listed
abbrev pub FlushFails : PortState → Type 0
FlushFails port = Contains port.failing (next_count port.calls)

-- the port after a flush
abbrev pub after_flush : PortState → PortState
after_flush port = record port { handed_on = length port.written; calls = next_count port.calls }

-- the port after a flush that failed
abbrev pub after_flush_fault : PortState → PortState
after_flush_fault port = record port { write_faults = next_count port.write_faults; calls = next_count port.calls }
