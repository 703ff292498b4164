-- A sink in memory.
use Rattle.std.specs.Prelude.{◌<◌, ◌-◌, ◌/◌, ◌⊎◌, ℕ, List, ◌++◌, length, take, min, Contains}
use Rattle.tilt_outside.specs.Counts.{next_count}

-- what was written, how many bytes it still takes, its faults and calls so far, and the numbers of the calls that are to fail
pub record SinkState : Type 0 where
  pub written : List ℕ
  pub room : ℕ
  pub faults : ℕ
  pub calls : ℕ
  pub failing : List ℕ

-- the next put of that piece fails: it has no room, or its number is listed
abbrev pub PutFails : SinkState → List ℕ → Type 0
PutFails sink piece = (sink.room < length piece) ⊎ Contains sink.failing (next_count sink.calls)

-- the sink after a write that took the piece
abbrev pub after_put : SinkState → List ℕ → SinkState
after_put sink piece = record sink {
  written = sink.written ++ piece;
  room = sink.room - length piece;
  calls = next_count sink.calls;
}

-- how many bytes a write that fails takes: half of the piece, as far as there is room
abbrev pub taken_at_fault : SinkState → List ℕ → ℕ
taken_at_fault sink piece = min (length piece / 2) sink.room

-- the sink after a write that failed
abbrev pub after_fault : SinkState → List ℕ → SinkState
after_fault sink piece = record sink {
  written = sink.written ++ take (taken_at_fault sink piece) piece;
  room = sink.room - taken_at_fault sink piece;
  faults = next_count sink.faults;
  calls = next_count sink.calls;
}

-- the next flush fails: its number is listed
abbrev pub FlushFails : SinkState → Type 0
FlushFails sink = Contains sink.failing (next_count sink.calls)

-- the sink after a flush
abbrev pub after_flush : SinkState → SinkState
after_flush sink = record sink { calls = next_count sink.calls }

-- the sink after a flush that failed
abbrev pub after_flush_fault : SinkState → SinkState
after_flush_fault sink = record sink { faults = next_count sink.faults; calls = next_count sink.calls }
