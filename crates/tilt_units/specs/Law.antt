-- The law of the translation: what the query over whole numbers gives, divided by its scales, is what the query in units means.
use Rattle.std.specs.Prelude.{◌≡◌, ℕ, ℤ, pos, ◌+ℤ◌, ◌≤ℤ◌, ◌<ℤ◌, Bool, true, false, ⊤, List, [], ◌∷◌, ◌++◌, length, Option, Some}
use Rattle.std.specs.List.{AllByRecursion}
use Rattle.tilt_base.specs.Expression.{Leaf, One, Two, If}
use Rattle.tilt_base.specs.Reduce.{numbers, reduce}
use Rattle.tilt_base.specs.Scalar.{apply1, apply2}
use Rattle.tilt_core.specs.CoreTree.{CoreTree, Const, Read as CoreRead, Reduce as CoreReduce, Definition}
use Rattle.tilt_core.specs.Meaning.{source_of, body_of, within, definition_of}
use Rattle.tilt_fractions.specs.Exact.{CellStandsFor, wide1, wide2}
use Rattle.tilt_fractions.specs.ExactReduce.{wide_reduce}
use Rattle.tilt_stream.specs.Domain.{on_grid}
use Rattle.tilt_stream.specs.Stream.{Stream}
use Rattle.tilt_stream.specs.Window.{met}
use Rattle.tilt_units.specs.DecimalTree.{UnitTree, Literal, Truth, Read, Reduce}
use Rattle.tilt_units.specs.Exact.{ExactSource, ScaledRows, scale_in, source_at}
use Rattle.tilt_units.specs.Translation.{UnitDefinition}

-- some ticks of each source, by its number
abbrev pub Chosen : Type 0
Chosen = ℕ → ℤ → Bool

-- a source of whole numbers, divided by its scale, is the exact one: the same cell at each chosen tick, and the same marks
pub record SourceStands (chosen : ℤ → Bool) (x : Stream) (source : ExactSource) : Type 0 where
  pub cells : (tick : ℤ) → chosen tick ≡ true → CellStandsFor (scale_in source.quantity) (x.cell tick) (source.stream.cell tick)
  pub marks : (tick : ℤ) → x.mark tick ≡ source.stream.mark tick

abbrev pub SourcesStand : Chosen → List Stream → List ExactSource → Type 0
SourcesStand chosen xs sources = (number : ℕ) → SourceStands (chosen number) (source_of xs number) (source_at sources number)

-- an expression over whole numbers reads its sources at chosen ticks only, and no node of it leaves 64 bits at a tick. So each node gives
-- what it gives on whole numbers of any size
abbrev pub StaysWithin : Chosen → List Stream → ℤ → CoreTree → Type 0
StaysWithin chosen xs tick (Leaf (Const number)) = ⊤
StaysWithin chosen xs tick (Leaf (CoreRead source offset)) = chosen source (tick +ℤ offset) ≡ true
StaysWithin chosen xs tick (Leaf (CoreReduce reducer source from to)) =
    let ns = numbers (met (source_of xs source) (tick +ℤ from) (tick +ℤ to)) in
    ((other : ℤ) → (tick +ℤ from) <ℤ other → other ≤ℤ (tick +ℤ to) → chosen source other ≡ true)
    × (reduce reducer ns ≡ wide_reduce reducer ns)
StaysWithin chosen xs tick (One op a) =
    StaysWithin chosen xs tick a × (apply1 op ((body_of xs a).cell tick) ≡ wide1 op ((body_of xs a).cell tick))
StaysWithin chosen xs tick (Two op a b) =
    StaysWithin chosen xs tick a × StaysWithin chosen xs tick b
    × (apply2 op ((body_of xs a).cell tick) ((body_of xs b).cell tick) ≡ wide2 op ((body_of xs a).cell tick) ((body_of xs b).cell tick))
StaysWithin chosen xs tick (If c a b) = StaysWithin chosen xs tick c × StaysWithin chosen xs tick a × StaysWithin chosen xs tick b

-- the ticks themselves, as a stream
abbrev pub clock : Stream
clock = record { cell = λ tick. Some tick; mark = λ tick. false }

-- at its chosen ticks a definition stays within 64 bits: its body does at the tick at which it is taken, if it is taken
abbrev pub DefinitionStaysWithin : Chosen → List Stream → Definition → Type 0
DefinitionStaysWithin chosen xs def =
    (tick taken : ℤ) → chosen (length xs) tick ≡ true → (within def.over (on_grid def.grid clock)).cell tick ≡ Some taken
    → StaysWithin chosen xs taken def.body

-- and each definition, over the sources before it
abbrev pub QueryStaysWithin : Chosen → List Stream → List Definition → Type 0
QueryStaysWithin chosen xs [] = ⊤
QueryStaysWithin chosen xs (def ∷ defs) =
    DefinitionStaysWithin chosen xs def × QueryStaysWithin chosen (xs ++ definition_of xs def ∷ []) defs

-- the scales of sources are positive, and those of inputs
abbrev pub SourcesHaveScales : List ExactSource → Type 0
SourcesHaveScales sources = (number : ℕ) → pos 1 ≤ℤ pos (scale_in (source_at sources number).quantity)

abbrev pub InputsHaveScales : List ScaledRows → Type 0
InputsHaveScales inputs = AllByRecursion (λ (input : ScaledRows). pos 1 ≤ℤ pos input.scale) inputs

-- and those of literals, in an expression and in all definitions
abbrev pub LiteralsHaveScales : UnitTree → Type 0
LiteralsHaveScales (Leaf (Literal d)) = pos 1 ≤ℤ pos d.scale
LiteralsHaveScales (Leaf (Truth holds)) = ⊤
LiteralsHaveScales (Leaf (Read source offset)) = ⊤
LiteralsHaveScales (Leaf (Reduce r source from to)) = ⊤
LiteralsHaveScales (One op a) = LiteralsHaveScales a
LiteralsHaveScales (Two op a b) = LiteralsHaveScales a × LiteralsHaveScales b
LiteralsHaveScales (If c a b) = LiteralsHaveScales c × LiteralsHaveScales a × LiteralsHaveScales b

abbrev pub DefinitionsHaveScales : List UnitDefinition → Type 0
DefinitionsHaveScales defs = AllByRecursion (λ (def : UnitDefinition). LiteralsHaveScales def.body) defs
