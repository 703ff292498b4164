use Rattle.std.proofs.Common.{◌≡◌, ◌≤◌, ◌*◌, ◌^◌, map, take}
use Rattle.tilt_engine.specs.Stock.{MadeParts}
use Rattle.tilt_pipe.specs.Rings.{held}
use Rattle.tilt_engine.proofs.stock.made_held.Given as goal

abbrev pub invariant-loop-made : goal.invariant-loop-made
invariant-loop-made l = record {
  value : l.total ≡ held (map (λ (m : MadeParts). m.made) (take l.made-index l.loops));
  few : l.total ≤ l.made-index * 2 ^ 64;
}
