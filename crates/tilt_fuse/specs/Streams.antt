-- What loops compute, as streams over the streams of the sources.
use Rattle.std.specs.Prelude.{◌≡◌, ℤ, List, length, Option, Some, None}
use Rattle.std.specs.List.{AllByRecursion, slice_index_or}
use Rattle.tilt_base.specs.Scalar.{apply1, apply2, choose}
use Rattle.tilt_stream.specs.Pointwise.{constant, nothing, shifted, lifted1, lifted2, branched}
use Rattle.tilt_stream.specs.Snap.{Snapshot}
use Rattle.tilt_stream.specs.Stream.{Stream, SameStream}
use Rattle.tilt_stream.specs.Window.{windowed, windowed_by}
use Rattle.tilt_core.specs.Core.{CoreParts}
use Rattle.tilt_core.specs.CoreTree.{Definition}
use Rattle.tilt_core.specs.Meaning.{source_of, body_of, sources}
use Rattle.tilt_fuse.specs.FusedTree.{FusedTree, Const, Port, Win, WinBy, Argument, One, Two, If, PlannedLoop}

-- what a map gives on a cell; ports and windows, which occur in no map, are null there
abbrev pub map_cell : FusedTree → Option ℤ → Option ℤ
map_cell (Const number) cell = Some number
map_cell Argument cell = cell
map_cell (One op a) cell = apply1 op (map_cell a cell)
map_cell (Two op a b) cell = apply2 op (map_cell a cell) (map_cell b cell)
map_cell (If c a b) cell = choose (map_cell c cell) (map_cell a cell) (map_cell b cell)
map_cell other cell = None

-- what a tree gives over the streams of sources; an argument, which occurs in maps alone, is null outside of them
abbrev pub fused_stream : List Stream → FusedTree → Stream
fused_stream xs (Const number) = constant (Some number)
fused_stream xs (Port source offset) = shifted (source_of xs source) offset
fused_stream xs (Win reducer source from to) = windowed reducer from to (source_of xs source)
fused_stream xs (WinBy tree reducer source from to) = windowed_by (map_cell tree) reducer from to (source_of xs source)
fused_stream xs Argument = nothing
fused_stream xs (One op a) = lifted1 op (fused_stream xs a)
fused_stream xs (Two op a b) = lifted2 op (fused_stream xs a) (fused_stream xs b)
fused_stream xs (If c a b) = branched (fused_stream xs c) (fused_stream xs a) (fused_stream xs b)

-- a loop gives what the body of its definition gives
abbrev pub MeansItsBody : List Stream → List Definition → PlannedLoop → Type 0
MeansItsBody xs defs loop =
    (def : Definition) → def ≡ slice_index_or defs loop.def def → SameStream (fused_stream xs loop.body) (body_of xs def.body)

-- so does each loop, whatever the rows are, one list of them for each input
pub record MeanTheirBodies (core : CoreParts) (loops : List PlannedLoop) : Type 0 where
  pub each : (rows : List (List Snapshot)) → length rows ≡ length core.inputs
      → AllByRecursion (MeansItsBody (sources rows core.defs) core.defs) loops
