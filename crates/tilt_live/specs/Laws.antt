-- What the laws of code say.
use Rattle.std.specs.Prelude.{◌≡◌, ◌+◌, ◌-◌, ℤ, List, [], ◌∷◌, ◌++◌, length}
use Rattle.tilt_base.specs.declared.span.Span.{Span}
use Rattle.tilt_code.specs.Code.{CodeParts, LoopParts}
use Rattle.tilt_core.specs.Core.{CoreParts, emitted_number}
use Rattle.tilt_engine.specs.CodeHorizon.{code_horizons}
use Rattle.tilt_feed.specs.Horizon.{Horizon, IsKnownAt, horizon_of, with_horizons}

-- with these horizons of the inputs, the last buffer of a code is known at each tick at which a query is
pub record Reaches (core : CoreParts) (code : CodeParts) (hs : List Horizon) : Type 0 where
  pub all : (tick : ℤ) → IsKnownAt (horizon_of (with_horizons hs core.defs) (emitted_number core)) tick
      → IsKnownAt (horizon_of (code_horizons code hs) (length core.inputs + (length code.loops - 1))) tick

-- the last loop of a code runs on a span
pub record EndsOn (code : CodeParts) (domain : Span) : Type 0 where
  pub front : List LoopParts
  pub last : LoopParts
  pub loops_are : code.loops ≡ front ++ last ∷ []
  pub lo_is : last.lo ≡ domain.start
  pub hi_is : last.hi ≡ domain.end
