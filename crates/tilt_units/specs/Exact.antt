-- What a query in units means exactly: the stream of each source, over fractions. A quotient or an average is truncated toward zero to
-- whole parts at the scale of its result, and nothing else is rounded.
use Rattle.std.specs.Prelude.{ℕ, zero, suc, ◌+◌, List, [], ◌∷◌, ◌++◌, map, Some, None, Result, Ok, Err}
use Rattle.tilt_base.specs.Expression.{Leaf, One, Two, If}
use Rattle.tilt_core.specs.CoreTree.{nodes}
use Rattle.tilt_core.specs.Meaning.{within}
use Rattle.tilt_fractions.specs.Exact.{exact_truth}
use Rattle.tilt_fractions.specs.Fraction.{parts}
use Rattle.tilt_stream.specs.Domain.{on_grid}
use Rattle.tilt_stream.specs.Snap.{Snapshot}
use Rattle.tilt_units.specs.DecimalTree.{UnitTree, UnitLeaf, Literal, Truth, Read, Reduce}
use Rattle.tilt_units.specs.ExactStream.{ExactStream, ticks_of, read_at, exact_stream_of, exact_constant, exact_shifted}
use Rattle.tilt_units.specs.ExactStream.{exact_windowed, exact_lifted1, exact_lifted2, exact_branched}
use Rattle.tilt_units.specs.Scaling.{ScaledTree, later, scaled}
use Rattle.tilt_units.specs.Translation.{UnitDefinition, start_of}
use Rattle.tilt_units.specs.declared.fault.ScaleFault.{ScaleFault}
use Rattle.tilt_units.specs.declared.place.Place.{Place}
use Rattle.tilt_units.specs.declared.quantity.Quantity.{Quantity}
use Rattle.tilt_units.specs.declared.quantity.Quantity.TheVariants as quantity

-- a source: its exact stream, and the quantity at whose scale it is written
pub record ExactSource : Type 0 where
  pub quantity : Quantity
  pub stream : ExactStream

-- the rows of an input, and the scale of their numbers
pub record ScaledRows : Type 0 where
  pub scale : ℕ
  pub rows : List Snapshot

abbrev pub scales_of : List ScaledRows → List ℕ
scales_of inputs = map (λ (input : ScaledRows). input.scale) inputs

abbrev pub rows_of : List ScaledRows → List (List Snapshot)
rows_of inputs = map (λ (input : ScaledRows). input.rows) inputs

-- the scale of a quantity, 1 of truth values
abbrev pub scale_in : Quantity → ℕ
scale_in quantity.Truth = 1
scale_in (quantity.Number scale) = scale

-- the quantity and the scale of what was translated
abbrev pub quantity_after : Result ScaledTree ScaleFault → Quantity
quantity_after (Ok x) = x.quantity
quantity_after (Err fault) = quantity.Truth

abbrev pub scale_after : Result ScaledTree ScaleFault → ℕ
scale_after result = scale_in (quantity_after result)

abbrev pub quantities_of : List ExactSource → List Quantity
quantities_of sources = map (λ (source : ExactSource). source.quantity) sources

-- the source with a number; null if there is none
abbrev pub source_at : List ExactSource → ℕ → ExactSource
source_at [] number = record { quantity = quantity.Truth; stream = exact_constant None }
source_at (source ∷ sources) zero = source
source_at (source ∷ sources) (suc number) = source_at sources number

abbrev pub exact_leaf : List ExactSource → UnitLeaf → ExactStream
exact_leaf sources (Literal d) = exact_constant (Some (parts d.number d.scale))
exact_leaf sources (Truth holds) = exact_constant (exact_truth holds)
exact_leaf sources (Read source offset) = exact_shifted (source_at sources source).stream offset
exact_leaf sources (Reduce reducer source from to) =
    exact_windowed (scale_in (source_at sources source).quantity) reducer from to (source_at sources source).stream

-- an expression at a place, over sources
abbrev pub exact_body : List ExactSource → Place → UnitTree → ExactStream
exact_body sources place (Leaf leaf) = exact_leaf sources leaf
exact_body sources place (One op a) = exact_lifted1 op (exact_body sources (later place 1) a)
exact_body sources place (Two op a b) =
    exact_lifted2 (scale_after (scaled (quantities_of sources) place (Two op a b))) op
    (exact_body sources (later place 1) a) (exact_body sources (later place (1 + nodes a)) b)
exact_body sources place (If c a b) =
    exact_branched (exact_body sources (later place 1) c) (exact_body sources (later place (1 + nodes c)) a)
    (exact_body sources (later place (1 + nodes c + nodes a)) b)

-- a stream, taken on the grid of a definition first and then restricted to its span
abbrev pub exact_taken : UnitDefinition → ExactStream → ExactStream
exact_taken def x = read_at (within def.over (on_grid def.grid (ticks_of x))) x

-- a definition at a place, over sources
abbrev pub exact_definition : List ExactSource → Place → UnitDefinition → ExactSource
exact_definition sources place def = record {
  quantity = quantity_after (scaled (quantities_of sources) place def.body);
  stream = exact_taken def (exact_body sources place def.body);
}

-- the sources, and after them the definitions from a number on, each over all sources before it
abbrev pub exact_definitions : ℕ → List ExactSource → List UnitDefinition → List ExactSource
exact_definitions number sources [] = sources
exact_definitions number sources (def ∷ defs) =
    exact_definitions (suc number) (sources ++ exact_definition sources (start_of number) def ∷ []) defs

abbrev pub exact_input : ScaledRows → ExactSource
exact_input input = record { quantity = quantity.Number input.scale; stream = exact_stream_of input.scale input.rows }

-- all sources of a query: the inputs, and the definitions
abbrev pub exact_sources : List ScaledRows → List UnitDefinition → List ExactSource
exact_sources inputs defs = exact_definitions 0 (map exact_input inputs) defs
