use Rattle.std.proofs.Common.{◌≡◌, ◌+◌, ◌++◌, length, vec_len}
use Rattle.std.specs.Vec.{vec_capacity}
use Rattle.tilt_watermarks.specs.Held.{due, left, moved_all}
use Rattle.tilt_watermarks.specs.Steps.{events_at}
use Rattle.tilt_watermarks.proofs.lane.Lane.hand_on.Given as goal

abbrev pub invariant-loop-update : goal.invariant-loop-update
invariant-loop-update l = record {
  edge : moved_all (due l.fn.end l.self.held) l.self.edge ≡ moved_all (due l.fn.end l.fn.self.held) l.fn.self.edge;
  left : left l.fn.end l.self.held ≡ left l.fn.end l.fn.self.held;
  events : l.events.items ++ events_at l.fn.number (due l.fn.end l.self.held) ≡ l.fn.events.items ++ events_at l.fn.number (due l.fn.end l.fn.self.held);
  capacity : vec_capacity l.events ≡ vec_capacity l.fn.events;
  len : vec_len l.events + length l.self.held ≡ vec_len l.fn.events + length l.fn.self.held;
}

abbrev pub decreases-loop-update : goal.decreases-loop-update
decreases-loop-update l = length l.self.held
