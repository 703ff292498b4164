-- A stream is a function of time: at each tick a cell, and a mark where a snapshot begins (the TiLT paper's temporal object; marks are
-- our own rule).
use Rattle.std.specs.Prelude.{◌≡◌, ℤ, pos, ◌+ℤ◌, Bool, false, ◌&&◌, ◌||◌, if◌then◌else◌, List, [], ◌∷◌, Option, None, int_lt, int_le}
use Rattle.std.specs.Ordering.{int_eq}
use Rattle.tilt_stream.specs.Snap.{Snapshot}

-- at each tick a cell, and whether a snapshot begins there
pub record Stream : Type 0 where
  pub cell : ℤ → Option ℤ
  pub mark : ℤ → Bool

-- whether the tick lies in `(start, end]`
abbrev pub covers : Snapshot → ℤ → Bool
covers s tick = int_lt s.start tick && int_le tick s.end

-- the value of the first one that covers the tick, and null if none does
abbrev pub cell_at : List Snapshot → ℤ → Option ℤ
cell_at [] tick = None
cell_at (s ∷ ss) tick = if covers s tick then s.value else cell_at ss tick

-- whether one of them begins at the tick, or ended at the tick before
abbrev pub mark_at : List Snapshot → ℤ → Bool
mark_at [] tick = false
mark_at (s ∷ ss) tick = int_eq tick (s.start +ℤ pos 1) || int_eq tick (s.end +ℤ pos 1) || mark_at ss tick

-- the stream of rows, or of snapshots without gaps
abbrev pub stream_of : List Snapshot → Stream
stream_of list = record { cell = cell_at list; mark = mark_at list }

-- the same cell and the same mark at every tick
pub record SameStream (x y : Stream) : Type 0 where
  pub cells : (tick : ℤ) → x.cell tick ≡ y.cell tick
  pub marks : (tick : ℤ) → x.mark tick ≡ y.mark tick
