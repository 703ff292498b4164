-- What the ring of each loop holds (our own rule): of what the loop has made, that which the next turns of later loops may read.
use Rattle.std.specs.Prelude.{◌<◌, ◌≤◌, ℕ, zero, suc, ◌+◌, ℤ, pos, ◌+ℤ◌, Bool, ◌&&◌, if◌then◌else◌, List, [], ◌∷◌}
use Rattle.std.specs.Prelude.{length, drop, max, Option, Some, None, int_lt}
use Rattle.std.specs.Option.{unwrap_or}
use Rattle.tilt_code.specs.Code.{CodeParts}
use Rattle.tilt_code.specs.Run.{run_of}
use Rattle.tilt_stream.specs.Snap.{Snapshot, ended_below, last_end}
use Rattle.tilt_pipe.specs.Made.{Stage, stages_after}
use Rattle.tilt_pipe.specs.Reads.{body_reads, earlier, first_tick, turn_point}

-- where the next turn of a loop begins
abbrev pub position : Stage → ℤ
position s = unwrap_or (last_end s.made) s.work.loop.lo

-- whether a loop is at work: it is used, and not at the end of its stretch
abbrev pub is_at_work : Stage → Bool
is_at_work s = s.work.used && int_lt (position s) s.work.loop.hi

-- the first tick of a buffer that the next turn of a loop reads, if it is at work
abbrev pub next_read : ℕ → Stage → Option ℤ
next_read buffer s = if is_at_work s then first_tick buffer (turn_point s.work.loop (position s)) (body_reads s.work.loop.body) else None

-- the first tick of a buffer that the next turns of these loops read
abbrev pub wanted : ℕ → List Stage → Option ℤ
wanted buffer [] = None
wanted buffer (s ∷ stages) = earlier (next_read buffer s) (wanted buffer stages)

-- how many of some snapshots end below a tick, or all of them if there is no tick: this is how many are let go
abbrev pub let_go : Option ℤ → List Snapshot → ℕ
let_go None list = length list
let_go (Some tick) list = ended_below tick list

-- after `n` snapshots the next one ends at a tick; if there is no tick, there is no next one
abbrev pub IsNextEnd : ℕ → List Snapshot → Option ℤ → Type 0
IsNextEnd n list None = length list ≤ n
IsNextEnd n list (Some end) = (ended_below end list ≤ n) × (n < ended_below (end +ℤ pos 1) list)

-- the snapshots that aren't let go
abbrev pub kept_from : Option ℤ → List Snapshot → List Snapshot
kept_from tick list = drop (let_go tick list) list

-- what the rings of these loops hold, of which the first fills the buffer with the number
abbrev pub rings_of : ℕ → List Stage → List (List Snapshot)
rings_of buffer [] = []
rings_of buffer (s ∷ stages) = kept_from (wanted buffer stages) s.made ∷ rings_of (suc buffer) stages

-- what the rings of a code's loops hold after `given` snapshots were given out
abbrev pub rings_after : CodeParts → List (List Snapshot) → ℕ → List (List Snapshot)
rings_after code inputs given = rings_of (length inputs) (stages_after code inputs given)

-- how many snapshots the rings hold together
abbrev pub held : List (List Snapshot) → ℕ
held [] = 0
held (ring ∷ rings) = length ring + held rings

-- the most that they hold together, while at most `given` snapshots were given out
abbrev pub most_held : CodeParts → List (List Snapshot) → ℕ → ℕ
most_held code inputs zero = held (rings_after code inputs 0)
most_held code inputs (suc given) = max (most_held code inputs given) (held (rings_after code inputs (suc given)))

-- the most that they ever hold
abbrev pub most_ever : CodeParts → List (List Snapshot) → ℕ
most_ever code inputs = most_held code inputs (length (run_of code inputs))
