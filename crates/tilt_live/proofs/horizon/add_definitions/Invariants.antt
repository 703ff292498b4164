use Rattle.std.proofs.Common.{◌≡◌, ◌+◌, drop, length, map}
use Rattle.std.specs.List.{AllByRecursion}
use Rattle.tilt_feed.specs.Horizon.{with_horizons}
use Rattle.tilt_engine.specs.CodeHorizon.{horizon_by}
use Rattle.tilt_live.specs.Ticks.{IsWithin, drift}
use Rattle.tilt_live.proofs.horizon.add_definitions.Given as goal

abbrev pub invariant-loop-def : goal.invariant-loop-def
invariant-loop-def l = record {
  so_far : (with_horizons (map horizon_by l.horizons.items) (drop l.def-index l.defs) ≡ with_horizons (map horizon_by l.initial.horizons.items) l.defs);
  many : length l.horizons.items ≡ length l.initial.horizons.items + l.def-index;
  near : AllByRecursion (IsWithin (drift (length l.horizons.items))) l.horizons.items;
}
