use Rattle.std.proofs.Common.{◌≡◌, List}
use Rattle.tilt_engine.specs.CodeHorizon.{horizon_by}
use Rattle.tilt_engine.specs.Standing.{AreLoops, IsStockOf, loop_at, turns_left}
use Rattle.tilt_feed.specs.Horizon.{Horizon}
use Rattle.tilt_stream.specs.Snap.{Snapshot}
use Rattle.tilt_engine.proofs.turning.go_on.Given as goal

abbrev pub invariant-loop-horizon : goal.invariant-loop-horizon
invariant-loop-horizon l = record {
  inputs : l.stock.inputs.items ≡ l.fn.stock.inputs.items;
  loops : (rows gone : List (List Snapshot)) (hs : List Horizon)
      → IsStockOf l.code rows gone hs l.fn.stock.inputs.items l.fn.stock.loops.items l.fn.states l.place
      → horizon_by l.horizon ≡ loop_at l.code hs l.place → AreLoops l.code rows gone hs l.stock.loops.items l.states l.place;
}

abbrev pub decreases-loop-horizon : goal.decreases-loop-horizon
decreases-loop-horizon l = turns_left l.stock.loops.items l.place
