-- The run of a code: the lists of its buffers, made in order.
use Rattle.std.specs.Prelude.{List, [], ◌∷◌, ◌++◌, map}
use Rattle.tilt_code.specs.Body.{last_or}
use Rattle.tilt_code.specs.Code.{LoopParts, CodeParts}
use Rattle.tilt_code.specs.Turn.{turns}
use Rattle.tilt_stream.specs.Snap.{Snapshot}
use Rattle.tilt_stream.specs.Stream.{stream_of}

-- these buffers, and after them those of loops, each made over all before it
abbrev pub with_buffers : List (List Snapshot) → List LoopParts → List (List Snapshot)
with_buffers lists [] = lists
with_buffers lists (l ∷ loops) = with_buffers (lists ++ turns (map stream_of lists) l ∷ []) loops

-- all buffers of a code: the rows of each input, and the loops
abbrev pub buffers_of : CodeParts → List (List Snapshot) → List (List Snapshot)
buffers_of code inputs = with_buffers inputs code.loops

-- the run of a code on the rows of its inputs: the last buffer
abbrev pub run_of : CodeParts → List (List Snapshot) → List Snapshot
run_of code inputs = last_or [] (buffers_of code inputs)
