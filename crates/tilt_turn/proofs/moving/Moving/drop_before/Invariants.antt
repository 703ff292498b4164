use Rattle.std.proofs.Common.{◌≡◌, ℤ, ◌≤ℤ◌, List, Option, length}
use Rattle.tilt_stream.specs.Snap.{Snapshot}
use Rattle.tilt_turn.proofs.Moves.{HoldsBefore}
use Rattle.tilt_turn.specs.Held.{Holds}
use Rattle.tilt_turn.specs.Kinds.{kind_reducer}
use Rattle.tilt_turn.proofs.moving.Moving.drop_before.Given as goal

abbrev pub invariant-loop-self : goal.invariant-loop-self
invariant-loop-self l = record {
  back : l.self.back ≡ l.fn.self.back;
  next : l.self.next ≡ l.fn.self.next;
  reducer : kind_reducer l.self.kind ≡ kind_reducer l.fn.self.kind;
  held : (list : List Snapshot) (by_map : Option ℤ → Option ℤ) (begin : ℤ) → begin ≤ℤ l.first → Holds list by_map begin l.fn.self
      → HoldsBefore list by_map l.first l.self;
}

abbrev pub decreases-loop-self : goal.decreases-loop-self
decreases-loop-self l = length l.self.marks.items
