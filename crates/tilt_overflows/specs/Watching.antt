-- The query that watches another one: it emits 1 at the ticks at which a result of the other one left 64 bits, and null at others.
use Rattle.std.specs.Prelude.{◌≡◌, ℕ, zero, suc, ◌+◌, ◌≤◌, pos, neg_ℤ, ◌+ℤ◌, ◌-ℤ◌, List, [], ◌∷◌, ◌++◌, length, map, fold, max, replicate}
use Rattle.std.specs.Prelude.{option_map, Result, MatchResult}
use Rattle.std.specs.Int.{int_min, int_max}
use Rattle.std.specs.List.{AllByRecursion}
use Rattle.tilt_base.specs.Expression.{Leaf, Two}
use Rattle.tilt_base.specs.Grid.{GridPoints}
use Rattle.tilt_base.specs.declared.limits.TheConstants.{T}
use Rattle.tilt_base.specs.declared.operator.Op2.TheVariants.{When, IfNull}
use Rattle.tilt_base.specs.declared.span.Span.{Span}
use Rattle.tilt_core.specs.Core.{CoreParts, IsCore, domain_of}
use Rattle.tilt_core.specs.CoreTree.{CoreTree, Definition, Const, Read, nodes}
use Rattle.tilt_core.specs.Needs.{Need, reach}
use Rattle.tilt_overflows.specs.Leaves.{leaves}
use Rattle.tilt_overflows.specs.declared.fault.WatchError.{WatchError}
use Rattle.tilt_overflows.specs.declared.fault.WatchError.TheVariants.{TooLarge}

-- the definition that watches another one: 1 if the body of that one leaves 64 bits at the tick at which it is taken, and else null
abbrev pub watch : Definition → Definition
watch def = record { body = Two When (Leaf (Const (pos 1))) (leaves def.body); over = def.over; grid = def.grid }

-- the first of some sources that isn't null: the source with a number, and so many after it
abbrev pub some_of : ℕ → ℕ → CoreTree
some_of first zero = Leaf (Read first (pos 0))
some_of first (suc more) = Two IfNull (some_of first more) (Leaf (Read (first + suc more) (pos 0)))

-- a span, widened by a look-back and a look-ahead as far as the limits of a span allow
abbrev pub widened : Need → Span → Span
widened reach span = record { start = int_max (neg_ℤ T) (span.start -ℤ reach.back); end = int_min T (span.end +ℤ reach.ahead) }

-- the grid of which each tick is a point
abbrev pub each_tick : GridPoints
each_tick = record { period = pos 1; offset = pos 0 }

-- what the watching query emits: 1 if one of the definitions left 64 bits. Its domain is all that the output can depend on
abbrev pub emitted_watch : CoreParts → Definition
emitted_watch core = record {
  body = some_of (length core.inputs + length core.defs) (length core.names);
  over = option_map (widened (reach (length core.inputs) core.defs)) (domain_of core.defs);
  grid = each_tick;
}

-- the definitions of the query, a watch of each, and what is emitted
abbrev pub watching_defs : CoreParts → List Definition
watching_defs core = core.defs ++ map watch core.defs ++ emitted_watch core ∷ []

-- how many bytes the longest of some names has
abbrev pub most_bytes : List (List ℕ) → ℕ
most_bytes names = fold (λ most name. max most (length name)) 0 names

-- that many names of nothing but `_`, of which the first has one byte more than a number, and each other one more than the one before it
abbrev pub more_names : ℕ → ℕ → List (List ℕ)
more_names bytes zero = []
more_names bytes (suc more) = more_names bytes more ++ replicate (bytes + suc more) 95 ∷ []

-- The core that watches another core. It has the same inputs and the same definitions under their names. The other definitions that it has
-- get names that are longer than all names of the other core.
abbrev pub watching_core : CoreParts → CoreParts
watching_core core = record {
  inputs = core.inputs;
  names = core.names ++ more_names (most_bytes (core.inputs ++ core.names)) (suc (length core.defs));
  defs = watching_defs core;
}

-- no body has more nodes than an expression may have
abbrev pub AreSmall : List Definition → Type 0
AreSmall defs = AllByRecursion (λ (def : Definition). nodes def.body ≤ 256) defs

-- the watching core is given; or it isn't the core of an accepted query, since a query has limits; or memory ran out
abbrev pub GivesWatching : CoreParts → Result CoreParts WatchError → Type 0
GivesWatching core given =
    MatchResult given (λ watching. watching ≡ watching_core core) (λ fault. fault ≡ TooLarge → ¬ (IsCore (watching_core core)))
