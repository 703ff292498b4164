-- The law of watching queries.
use Rattle.std.specs.Prelude.{◌≡◌, ◌⊎◌, ℕ, ◌+◌, ◌<◌, ℤ, ◌+ℤ◌, ◌-ℤ◌, ◌≤ℤ◌, ◌<ℤ◌, true, false, Bool, ⊤, List, [], ◌∷◌, ◌++◌, length, Option, Some, None, IsSome}
use Rattle.tilt_base.specs.Expression.{Leaf, One, Two, If}
use Rattle.tilt_base.specs.declared.span.Span.{Span}
use Rattle.tilt_bounds.specs.Margins.{need_at}
use Rattle.tilt_core.specs.Core.{CoreParts, emitted_number}
use Rattle.tilt_core.specs.CoreTree.{CoreTree, Const, Read, Reduce, Definition}
use Rattle.tilt_core.specs.Meaning.{definition_of, meaning, within}
use Rattle.tilt_core.specs.Needs.{Need, needs, reach}
use Rattle.tilt_overflows.specs.Watching.{watching_core, watching_defs}
use Rattle.tilt_stream.specs.Domain.{lies_in, on_grid}
use Rattle.tilt_stream.specs.Snap.{Snapshot}
use Rattle.tilt_stream.specs.Stream.{Stream}
use Rattle.tilt_units.specs.Exact.{ExactSource, ScaledRows, exact_sources, source_at}
use Rattle.tilt_units.specs.Law.{Chosen, StaysWithin, clock}
use Rattle.tilt_units.specs.Translation.{UnitDefinition}

-- at a tick an expression reads its sources at chosen ticks only
abbrev pub ReadsChosen : Chosen → ℤ → CoreTree → Type 0
ReadsChosen chosen tick (Leaf (Const number)) = ⊤
ReadsChosen chosen tick (Leaf (Read source offset)) = chosen source (tick +ℤ offset) ≡ true
ReadsChosen chosen tick (Leaf (Reduce reducer source from to)) =
    (other : ℤ) → (tick +ℤ from) <ℤ other → other ≤ℤ (tick +ℤ to) → chosen source other ≡ true
ReadsChosen chosen tick (One op a) = ReadsChosen chosen tick a
ReadsChosen chosen tick (Two op a b) = ReadsChosen chosen tick a × ReadsChosen chosen tick b
ReadsChosen chosen tick (If c a b) = ReadsChosen chosen tick c × ReadsChosen chosen tick a × ReadsChosen chosen tick b

-- at a tick a node of the body of a definition leaves 64 bits: at the tick at which the body is taken, if it is taken
abbrev pub DefinitionLeaves : List Stream → Definition → ℤ → Type 0
DefinitionLeaves xs def tick =
    (taken : ℤ) × ((within def.over (on_grid def.grid clock)).cell tick ≡ Some taken) × ¬ (StaysWithin (λ source other. true) xs taken def.body)

-- the same of one of the definitions, over the sources before it
abbrev pub QueryLeaves : List Stream → List Definition → ℤ → Type 0
QueryLeaves xs [] tick = ⊥
QueryLeaves xs (def ∷ defs) tick = DefinitionLeaves xs def tick ⊎ QueryLeaves (xs ++ definition_of xs def ∷ []) defs tick

-- whether a source with a need is read at a tick for the output on `(lo, hi]`
abbrev pub is_asked : Option Need → ℤ → ℤ → ℤ → Bool
is_asked None lo hi tick = false
is_asked (Some n) lo hi tick = lies_in (lo -ℤ n.back) (hi +ℤ n.ahead) tick

-- the ticks of each source that the output on `(lo, hi]` can depend on
abbrev pub asked_for : CoreParts → ℤ → ℤ → Chosen
asked_for core lo hi = λ source tick. is_asked (need_at (needs (length core.inputs) core.defs) source) lo hi tick

-- the output depends on each definition
abbrev pub AllUsed : CoreParts → Type 0
AllUsed core = (k : ℕ) → k < length core.defs → IsSome (need_at (needs (length core.inputs) core.defs) (length core.inputs + k))

-- a span has all ticks that the output on `(lo, hi]` can depend on
pub record Spans (core : CoreParts) (lo hi : ℤ) (span : Span) : Type 0 where
  pub start : span.start ≤ℤ (lo -ℤ (reach (length core.inputs) core.defs).back)
  pub end : (hi +ℤ (reach (length core.inputs) core.defs).ahead) ≤ℤ span.end

-- what the watching query emits at a tick, for the rows of the inputs
abbrev pub watch_cell : CoreParts → List (List Snapshot) → ℤ → Option ℤ
watch_cell core rows tick = (meaning rows (watching_defs core) (emitted_number (watching_core core))).cell tick

-- it is nothing but null on a span
abbrev pub EmitsNothing : CoreParts → List (List Snapshot) → Span → Type 0
EmitsNothing core rows span = (tick : ℤ) → span.start <ℤ tick → tick ≤ℤ span.end → watch_cell core rows tick ≡ None

-- what a query in units emits exactly, if this is its core over whole numbers
abbrev pub exact_emitted : CoreParts → List ScaledRows → List UnitDefinition → ExactSource
exact_emitted core inputs defs = source_at (exact_sources inputs defs) (emitted_number core)
