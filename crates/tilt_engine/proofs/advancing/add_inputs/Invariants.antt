use Rattle.std.proofs.Common.{◌≡◌, map, take}
use Rattle.std.specs.List.{AllByRecursion}
use Rattle.tilt_engine.specs.CodeHorizon.{IsTimeOrNever, horizon_by}
use Rattle.tilt_engine.specs.Stock.{inlet_horizon}
use Rattle.tilt_engine.proofs.advancing.add_inputs.Given as goal

abbrev pub invariant-loop-input : goal.invariant-loop-input
invariant-loop-input l = record {
  value : map horizon_by l.horizons.items ≡ map (inlet_horizon l.fn.finished) (take l.input-index l.inputs);
  times : AllByRecursion IsTimeOrNever l.horizons.items;
}
