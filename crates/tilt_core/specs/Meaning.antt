-- The meaning of a query: the stream of each source, from the rows of the inputs and the definitions. Sources are numbered, the inputs in
-- order from 0 on, then the definitions in order. The meaning looks at one tick and at whole series: it has no buffer, no margin and no
-- loop.
use Rattle.std.specs.Prelude.{ℕ, zero, suc, ◌==◌, if◌then◌else◌, List, [], ◌∷◌, ◌++◌, length, map, Option, Some, None, option_map}
use Rattle.std.specs.Prelude.{option_and_then, ⊤}
use Rattle.tilt_base.specs.Expression.{Leaf, One, Two, If}
use Rattle.tilt_base.specs.Grid.{IsGrid}
use Rattle.tilt_stream.specs.Snap.{Snapshot}
use Rattle.tilt_stream.specs.Snapshots.{snapshots}
use Rattle.tilt_stream.specs.Stream.{Stream, stream_of}
use Rattle.tilt_base.specs.declared.span.Span.{Span}
use Rattle.tilt_core.specs.Core.{CoreParts, domain_of, emitted_number}
use Rattle.tilt_core.specs.CoreTree.{Const, Read, Reduce, CoreTree, Definition}
use Rattle.tilt_stream.specs.Domain.{on_grid, restricted}
use Rattle.tilt_stream.specs.Pointwise.{constant, nothing, shifted, lifted1, lifted2, branched}
use Rattle.tilt_stream.specs.Window.{windowed}

-- the stream of a source; null where no source has the number
abbrev pub source_of : List Stream → ℕ → Stream
source_of [] number = nothing
source_of (x ∷ xs) zero = x
source_of (x ∷ xs) (suc number) = source_of xs number

-- an expression over sources
abbrev pub body_of : List Stream → CoreTree → Stream
body_of xs (Leaf (Const number)) = constant (Some number)
body_of xs (Leaf (Read source offset)) = shifted (source_of xs source) offset
body_of xs (Leaf (Reduce reducer source from to)) = windowed reducer from to (source_of xs source)
body_of xs (One op a) = lifted1 op (body_of xs a)
body_of xs (Two op a b) = lifted2 op (body_of xs a) (body_of xs b)
body_of xs (If c a b) = branched (body_of xs c) (body_of xs a) (body_of xs b)

-- a stream, restricted to a span where one is written
abbrev pub within : Option Span → Stream → Stream
within None x = x
within (Some span) x = restricted span.start span.end x

-- a definition over sources: its body, taken on the grid first and then restricted
abbrev pub definition_of : List Stream → Definition → Stream
definition_of xs def = within def.over (on_grid def.grid (body_of xs def.body))

-- the sources, and after them the definitions, each over all sources before it
abbrev pub with_definitions : List Stream → List Definition → List Stream
with_definitions xs [] = xs
with_definitions xs (def ∷ defs) = with_definitions (xs ++ definition_of xs def ∷ []) defs

-- all sources of a query: the rows of each input, and the definitions
abbrev pub sources : List (List Snapshot) → List Definition → List Stream
sources inputs defs = with_definitions (map stream_of inputs) defs

-- the meaning of one source
abbrev pub meaning : List (List Snapshot) → List Definition → ℕ → Stream
meaning inputs defs number = source_of (sources inputs defs) number

-- the stream that a query emits, where there is one list of rows for each input; with more lists or fewer it has no meaning
abbrev pub emitted : CoreParts → List (List Snapshot) → Option Stream
emitted core inputs = if length inputs == length core.inputs then Some (meaning inputs core.defs (emitted_number core)) else None

-- what a query gives: the snapshots of that stream on the output domain
abbrev pub output_of : CoreParts → List (List Snapshot) → Option (List Snapshot)
output_of core inputs =
    option_and_then (λ x. option_map (λ domain. snapshots x domain.start domain.end) (domain_of core.defs)) (emitted core inputs)

-- the grid of each definition is one
abbrev pub AreGrids : List Definition → Type 0
AreGrids [] = ⊤
AreGrids (def ∷ defs) = IsGrid def.grid × AreGrids defs
