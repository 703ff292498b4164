use Rattle.std.proofs.Common.{◌≡◌, ◌≤◌, ◌*◌, ◌^◌, map, take}
use Rattle.tilt_engine.specs.Stock.{InletParts}
use Rattle.tilt_pipe.specs.Rings.{held}
use Rattle.tilt_engine.proofs.stock.rows_held.Given as goal

abbrev pub invariant-loop-input : goal.invariant-loop-input
invariant-loop-input l = record {
  value : l.total ≡ held (map (λ (i : InletParts). i.input.rows) (take l.input-index l.inputs));
  few : l.total ≤ l.input-index * 2 ^ 64;
}
