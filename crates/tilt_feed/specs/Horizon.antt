-- The horizon: up to where each source of a query is known, computed from the watermarks alone (our own rule).
use Rattle.std.specs.Prelude.{ℕ, zero, suc, ℤ, pos, ◌-ℤ◌, ◌≤ℤ◌, Bool, true, ◌||◌, if◌then◌else◌, int_le, List, [], ◌∷◌, ◌++◌, map}
use Rattle.std.specs.Prelude.{Option, Some, None, ⊤}
use Rattle.std.specs.Int.{int_min, int_max}
use Rattle.std.specs.Option.{unwrap_or}
use Rattle.std.specs.Ordering.{int_eq}
use Rattle.tilt_base.specs.Expression.{Leaf, One, Two, If}
use Rattle.tilt_base.specs.Grid.{GridPoints, floor}
use Rattle.tilt_base.specs.declared.limits.TheConstants.{T}
use Rattle.tilt_base.specs.declared.span.Span.{Span}
use Rattle.tilt_core.specs.Core.{CoreParts, domain_of, emitted_number}
use Rattle.tilt_core.specs.CoreTree.{Const, Read, Reduce, CoreTree, Definition}
use Rattle.tilt_feed.specs.Feed.{Feed}
use Rattle.tilt_feed.specs.declared.edge.Edge.{Edge}

-- up to a tick, or for ever
pub data Horizon : Type 0 where
  Until : (tick : ℤ) → Horizon
  ForEver : Horizon

-- a tick isn't above a horizon
abbrev pub IsKnownAt : Horizon → ℤ → Type 0
IsKnownAt (Until last) tick = tick ≤ℤ last
IsKnownAt ForEver tick = ⊤

-- whether it isn't
abbrev pub is_known_at : Horizon → ℤ → Bool
is_known_at (Until last) tick = int_le tick last
is_known_at ForEver tick = true

-- the earlier of two
abbrev pub earlier : Horizon → Horizon → Horizon
earlier ForEver h = h
earlier (Until last) ForEver = Until last
earlier (Until last) (Until other) = Until (int_min last other)

-- earlier by so many ticks
abbrev pub earlier_by : Horizon → ℤ → Horizon
earlier_by ForEver offset = ForEver
earlier_by (Until last) offset = Until (last -ℤ offset)

-- the horizon of the source with a number; for ever where there is none, which is null
abbrev pub horizon_of : List Horizon → ℕ → Horizon
horizon_of [] number = ForEver
horizon_of (h ∷ hs) zero = h
horizon_of (h ∷ hs) (suc number) = horizon_of hs number

-- an input is known up to its watermark, and for ever if the feed is finished or the watermark is `T`
abbrev pub input_horizon : Bool → Edge → Horizon
input_horizon finished edge = if finished || int_eq edge.watermark T then ForEver else Until edge.watermark

-- an expression: the earliest horizon of what it reads, less how far ahead it reads there, and for ever if it reads nothing
abbrev pub body_horizon : List Horizon → CoreTree → Horizon
body_horizon hs (Leaf (Const number)) = ForEver
body_horizon hs (Leaf (Read source offset)) = earlier_by (horizon_of hs source) offset
body_horizon hs (Leaf (Reduce reducer source from to)) = earlier_by (horizon_of hs source) to
body_horizon hs (One op a) = body_horizon hs a
body_horizon hs (Two op a b) = earlier (body_horizon hs a) (body_horizon hs b)
body_horizon hs (If c a b) = earlier (body_horizon hs c) (earlier (body_horizon hs a) (body_horizon hs b))

-- on a grid: up to the last grid point that isn't above the horizon
abbrev pub grid_horizon : GridPoints → Horizon → Horizon
grid_horizon grid (Until last) = Until (floor grid last)
grid_horizon grid ForEver = ForEver

-- with `over (s, e]`: for ever if the horizon isn't below `e`, and at least up to `s`
abbrev pub over_horizon : Option Span → Horizon → Horizon
over_horizon None h = h
over_horizon (Some span) (Until last) = if int_le span.end last then ForEver else Until (int_max span.start last)
over_horizon (Some span) ForEver = ForEver

-- a definition over sources
abbrev pub definition_horizon : List Horizon → Definition → Horizon
definition_horizon hs def = over_horizon def.over (grid_horizon def.grid (body_horizon hs def.body))

-- the sources, and after them the definitions, each over all sources before it
abbrev pub with_horizons : List Horizon → List Definition → List Horizon
with_horizons hs [] = hs
with_horizons hs (def ∷ defs) = with_horizons (hs ++ definition_horizon hs def ∷ []) defs

-- the horizon of each source of a query
abbrev pub horizons : CoreParts → Feed → List Horizon
horizons core feed = with_horizons (map (λ input. input_horizon feed.finished input.edge) feed.inputs) core.defs

-- the output domain, which each accepted query has
abbrev pub output_domain : CoreParts → Span
output_domain core = unwrap_or (domain_of core.defs) (record { start = pos 0; end = pos 0 })

-- a horizon, at most a tick
abbrev pub clipped : ℤ → Horizon → ℤ
clipped end (Until last) = int_min end last
clipped end ForEver = end

-- the horizon of a query: that of the source that it emits, at most the end of the output domain
abbrev pub horizon : CoreParts → Feed → ℤ
horizon core feed = clipped (output_domain core).end (horizon_of (horizons core feed) (emitted_number core))
