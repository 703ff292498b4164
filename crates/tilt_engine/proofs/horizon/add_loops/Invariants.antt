use Rattle.std.proofs.Common.{◌≡◌, drop, map}
use Rattle.std.specs.List.{AllByRecursion}
use Rattle.tilt_engine.specs.CodeHorizon.{IsTimeOrNever, horizon_by, with_loop_horizons}
use Rattle.tilt_engine.proofs.horizon.add_loops.Given as goal

abbrev pub invariant-loop-each : goal.invariant-loop-each
invariant-loop-each l = record {
  value : with_loop_horizons (map horizon_by l.horizons.items) (drop l.each-index l.loops)
      ≡ with_loop_horizons (map horizon_by l.initial.horizons.items) l.loops;
  times : AllByRecursion IsTimeOrNever l.horizons.items;
}
