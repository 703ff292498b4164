use Rattle.std.proofs.Common.{◌-◌, ◌≤◌, length}
use Rattle.tilt_stream.specs.Snap.{ended_below}
use Rattle.tilt_stream.proofs.cursor.parted.Given as goal

abbrev pub invariant-loop-low : goal.invariant-loop-low
invariant-loop-low g l = record {
  from_low : l.from ≤ l.low;
  low : l.low ≤ ended_below l.tick (g.B.Buffer.list l.buffer);
  high : ended_below l.tick (g.B.Buffer.list l.buffer) ≤ l.high;
  made : l.high ≤ length (g.B.Buffer.list l.buffer);
}

abbrev pub decreases-loop-low : goal.decreases-loop-low
decreases-loop-low g l = l.high - l.low
