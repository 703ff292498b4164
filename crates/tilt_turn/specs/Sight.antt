-- What is seen of a stream at a grid point.
use Rattle.std.specs.Prelude.{◌≡◌, ℤ, IfSome}
use Rattle.tilt_stream.specs.Marks.{NamesNextMark}
use Rattle.tilt_stream.specs.Stream.{Stream}
use Rattle.tilt_stream.specs.declared.seen.Seen.{Seen}
use Rattle.tilt_turn.specs.Ready.{IsMarkTick}

-- the cell there, and the next mark above it, which lies where a leaf may have one
pub record Sees (x : Stream) (point : ℤ) (seen : Seen) : Type 0 where
  pub cell : seen.cell ≡ x.cell point
  pub next : NamesNextMark x point seen.next
  pub bounds : IfSome seen.next IsMarkTick
