-- What a code means, read as definitions of streams: each loop is its body, taken on the grid and then restricted to the loop's stretch.
-- It makes no turn and keeps no list.
use Rattle.std.specs.Prelude.{◌<ℤ◌, List, [], ◌∷◌, ◌++◌, map}
use Rattle.tilt_base.specs.Grid.{IsGrid}
use Rattle.tilt_code.specs.Body.{last_or, body_of}
use Rattle.tilt_code.specs.Code.{LoopParts, CodeParts}
use Rattle.tilt_stream.specs.Domain.{on_grid, restricted}
use Rattle.tilt_stream.specs.Pointwise.{nothing}
use Rattle.tilt_stream.specs.Snap.{Snapshot}
use Rattle.tilt_stream.specs.Stream.{Stream, stream_of}

-- a loop over the streams of the buffers
abbrev pub loop_of : List Stream → LoopParts → Stream
loop_of xs l = restricted l.lo l.hi (on_grid l.grid (body_of xs l))

-- these streams, and after them those of loops, each over all before it
abbrev pub with_loops : List Stream → List LoopParts → List Stream
with_loops xs [] = xs
with_loops xs (l ∷ loops) = with_loops (xs ++ loop_of xs l ∷ []) loops

-- the meaning of a code on the rows of its inputs: the last of its streams
abbrev pub meaning_of : CodeParts → List (List Snapshot) → Stream
meaning_of code inputs = last_or nothing (with_loops (map stream_of inputs) code.loops)

-- a loop that has a stretch and a grid
pub record IsTimed (l : LoopParts) : Type 0 where
  pub stretch : l.lo <ℤ l.hi
  pub grid : IsGrid l.grid
