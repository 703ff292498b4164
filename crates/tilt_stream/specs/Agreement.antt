-- When two streams agree on a stretch of time.
use Rattle.std.specs.Prelude.{◌≡◌, ℤ, pos, ◌+ℤ◌, ◌-ℤ◌, ◌<ℤ◌, ◌≤ℤ◌, false, List}
use Rattle.tilt_stream.specs.Snap.{Snapshot, ended_below}
use Rattle.tilt_stream.specs.Stream.{Stream, cell_at, mark_at}

-- The same cells on `(lo, hi]`, and the same marks there except at the first tick: a stretch that is read by itself always has a mark there.
pub record Agree (x y : Stream) (lo hi : ℤ) : Type 0 where
  pub cells : (tick : ℤ) → lo <ℤ tick → tick ≤ℤ hi → x.cell tick ≡ y.cell tick
  pub marks : (tick : ℤ) → (lo +ℤ pos 1) <ℤ tick → tick ≤ℤ hi → x.mark tick ≡ y.mark tick

-- where the stream has no mark, its cell is the cell of the tick before
pub record ChangesOnlyAtMarks (x : Stream) : Type 0 where
  pub unchanged : (tick : ℤ) → x.mark tick ≡ false → x.cell tick ≡ x.cell (tick -ℤ pos 1)

-- Two lists that are the same up to a tick: as many end below each tick up to it, and they have the same cells and marks there. Above
-- it they have the same next mark, which is the next mark of the first list.
pub record IsSameUpTo (last : ℤ) (a b : List Snapshot) : Type 0 where
  pub ended : (tick : ℤ) → tick ≤ℤ last → ended_below tick a ≡ ended_below tick b
  pub cells : (tick : ℤ) → tick ≤ℤ last → cell_at a tick ≡ cell_at b tick
  pub marks : (tick : ℤ) → tick ≤ℤ last → mark_at a tick ≡ mark_at b tick
  pub next : (tick : ℤ) → last <ℤ tick → ((other : ℤ) → last <ℤ other → other <ℤ tick → mark_at a other ≡ false)
      → mark_at a tick ≡ mark_at b tick
