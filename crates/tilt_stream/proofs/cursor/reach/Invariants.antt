use Rattle.std.proofs.Common.{◌-◌, ◌≤◌, ◌<◌, length}
use Rattle.tilt_stream.specs.Snap.{ended_below}
use Rattle.tilt_stream.proofs.cursor.reach.Given as goal

abbrev pub invariant-loop-step : goal.invariant-loop-step
invariant-loop-step g l = record {
  from_low : l.from ≤ l.low;
  low : l.low ≤ ended_below l.tick (g.B.Buffer.list l.buffer);
  some : 0 < l.step;
}

abbrev pub decreases-loop-step : goal.decreases-loop-step
decreases-loop-step g l = length (g.B.Buffer.list l.buffer) - l.low
