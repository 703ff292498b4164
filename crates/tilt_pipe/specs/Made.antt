-- What each loop of a pipe has made of its buffer, once `given` snapshots were given out (our own rule). Each makes only what the loops
-- after it have read. It is a recursion from the last loop down to the first, so that the case of a loop reads later loops alone.
use Rattle.std.specs.Prelude.{ℕ, suc, ℤ, Bool, true, false, ◌&&◌, ◌||◌, ◌==◌, if◌then◌else◌, List, [], ◌∷◌, ◌++◌, map, take, length}
use Rattle.std.specs.Prelude.{Option, Some, None, int_lt}
use Rattle.tilt_stream.specs.Pieces.{last_start}
use Rattle.tilt_code.specs.Code.{LoopParts, CodeParts}
use Rattle.tilt_code.specs.Turn.{turns}
use Rattle.tilt_stream.specs.Snap.{Snapshot}
use Rattle.tilt_stream.specs.Stream.{stream_of}
use Rattle.tilt_pipe.specs.declared.read.Read.{Read}
use Rattle.tilt_pipe.specs.Reads.{body_reads, later, last_tick, turn_point}

-- a loop, its whole buffer, and whether it is used: whether it is the last loop, or is read by it, directly or through others
pub record Work : Type 0 where
  pub loop : LoopParts
  pub whole : List Snapshot
  pub used : Bool

-- whether one of these reads the buffer
abbrev pub reads_buffer : ℕ → List Read → Bool
reads_buffer buffer [] = false
reads_buffer buffer (r ∷ reads) = (r.buffer == buffer) || reads_buffer buffer reads

-- whether the loop that fills a buffer is used, by the loops after it
abbrev pub is_used_by : ℕ → List Work → Bool
is_used_by buffer [] = false
is_used_by buffer (w ∷ works) = (w.used && reads_buffer buffer (body_reads w.loop.body)) || is_used_by buffer works

-- the same, but the last loop is always used
abbrev pub is_used : ℕ → List Work → Bool
is_used buffer [] = true
is_used buffer (w ∷ works) = is_used_by buffer (w ∷ works)

-- the loops after these buffers, the first of which fills the one with the number
abbrev pub works_from : ℕ → List (List Snapshot) → List LoopParts → List Work
works_from buffer lists [] = []
works_from buffer lists (l ∷ loops) =
    let whole = turns (map stream_of lists) l in
    let behind = works_from (suc buffer) (lists ++ whole ∷ []) loops in
    record { loop = l; whole = whole; used = is_used buffer behind } ∷ behind

-- the loops of a code over the rows of its inputs
abbrev pub works_of : CodeParts → List (List Snapshot) → List Work
works_of code inputs = works_from (length inputs) inputs code.loops

-- a loop, and what it has made of its buffer
pub record Stage : Type 0 where
  pub work : Work
  pub made : List Snapshot

-- the last tick of a buffer that the last turn of a loop read, if one was made
abbrev pub read_by_turn : ℕ → LoopParts → Option ℤ → Option ℤ
read_by_turn buffer l None = None
read_by_turn buffer l (Some start) = last_tick buffer (turn_point l start) (body_reads l.body)

-- the last tick of a buffer that the last turns of these loops read
abbrev pub asked : ℕ → List Stage → Option ℤ
asked buffer [] = None
asked buffer (s ∷ stages) = later (read_by_turn buffer s.work.loop (last_start s.made)) (asked buffer stages)

-- the snapshots that begin below a tick; since they touch, this is the shortest prefix that reaches the tick, or their end
abbrev pub begun_below : Option ℤ → List Snapshot → List Snapshot
begun_below None list = []
begun_below (Some tick) [] = []
begun_below (Some tick) (s ∷ ss) = if int_lt s.start tick then s ∷ begun_below (Some tick) ss else []

-- what these loops have made after `given` snapshots were given out, of which the first loop fills the buffer with the number
abbrev pub stages_from : ℕ → ℕ → List Work → List Stage
stages_from given buffer [] = []
stages_from given buffer (w ∷ []) = record { work = w; made = take given w.whole } ∷ []
stages_from given buffer (w ∷ next ∷ works) =
    let behind = stages_from given (suc buffer) (next ∷ works) in
    record { work = w; made = begun_below (asked buffer behind) w.whole } ∷ behind

-- what the loops of a code have made after `given` snapshots were given out
abbrev pub stages_after : CodeParts → List (List Snapshot) → ℕ → List Stage
stages_after code inputs given = stages_from given (length inputs) (works_of code inputs)
