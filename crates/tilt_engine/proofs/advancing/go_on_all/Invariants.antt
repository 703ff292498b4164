use Rattle.std.proofs.Common.{◌≡◌, List, map}
use Rattle.tilt_engine.specs.Standing.{AreLoops, IsStockOf}
use Rattle.tilt_engine.specs.Stock.{inlet_horizon}
use Rattle.tilt_stream.specs.Snap.{Snapshot}
use Rattle.tilt_engine.proofs.advancing.go_on_all.Given as goal

abbrev pub invariant-loop-place : goal.invariant-loop-place
invariant-loop-place l = record {
  inputs : l.stock.inputs.items ≡ l.fn.stock.inputs.items;
  loops : (rows gone : List (List Snapshot))
      → IsStockOf l.code rows gone (map (inlet_horizon l.finished) l.fn.stock.inputs.items) l.fn.stock.inputs.items l.fn.stock.loops.items l.fn.states 0
      → AreLoops l.code rows gone (map (inlet_horizon l.finished) l.fn.stock.inputs.items) l.stock.loops.items l.states l.place;
}
