-- The turns of a loop: its snapshots, made one after the other (the TiLT paper's loop from change to change; where a snapshot ends is our
-- own rule). A turn looks at one cell of the body, and at the body's marks above it.
use Rattle.std.specs.Prelude.{ℕ, zero, suc, ℤ, pos, ◌+ℤ◌, ◌-ℤ◌, if◌then◌else◌, List, [], ◌∷◌, Option, Some, None, int_lt}
use Rattle.std.specs.Int.{int_gap, int_min}
use Rattle.tilt_base.specs.Grid.{GridPoints, ceil, floor}
use Rattle.tilt_stream.specs.Marks.{next_mark}
use Rattle.tilt_code.specs.Body.{body_of}
use Rattle.tilt_code.specs.Code.{LoopParts}
use Rattle.tilt_stream.specs.Snap.{Snapshot}
use Rattle.tilt_stream.specs.Stream.{Stream}

-- where a snapshot ends whose body next has a mark at this tick: at the largest grid point below it, and at `hi` at the latest
abbrev pub turn_end : GridPoints → ℤ → Option ℤ → ℤ
turn_end grid hi None = hi
turn_end grid hi (Some next) = int_min hi (floor grid (next -ℤ pos 1))

-- the snapshot from a start to `hi` at most. Its value is the body's cell at the smallest grid point above the start, and it ends by the
-- body's first mark above that point. Marks more than a period above `hi` change nothing
abbrev pub turn : Stream → GridPoints → ℤ → ℤ → Snapshot
turn body grid hi start =
    let point = ceil grid (start +ℤ pos 1) in
    record {
      start = start;
      end = turn_end grid hi (next_mark body point (int_gap point (hi +ℤ grid.period)));
      value = body.cell point;
    }

-- the turns from a start until `hi`, at most this many of them
abbrev pub turns_from : Stream → GridPoints → ℤ → ℤ → ℕ → List Snapshot
turns_from body grid hi start zero = []
turns_from body grid hi start (suc more) =
    let s = turn body grid hi start in
    if int_lt start hi then s ∷ turns_from body grid hi s.end more else []

-- all turns from a start until `hi`: each takes one tick at least
abbrev pub turns_until : Stream → GridPoints → ℤ → ℤ → List Snapshot
turns_until body grid hi start = turns_from body grid hi start (int_gap start hi)

-- the turns of a loop over the streams of the buffers
abbrev pub turns : List Stream → LoopParts → List Snapshot
turns xs l = turns_until (body_of xs l) l.grid l.hi l.lo
