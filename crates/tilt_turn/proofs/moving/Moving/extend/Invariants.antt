use Rattle.std.proofs.Common.{◌≡◌, ℤ, ◌≤ℤ◌}
use Rattle.std.specs.Int.{int_gap}
use Rattle.tilt_code.specs.Body.{mapped}
use Rattle.tilt_turn.proofs.Moves.{stored}
use Rattle.tilt_turn.specs.Held.{Holds, Knows}
use Rattle.tilt_turn.specs.Kinds.{kind_reducer}
use Rattle.tilt_turn.proofs.moving.Moving.extend.Given as goal

abbrev pub invariant-loop-mark : goal.invariant-loop-mark
invariant-loop-mark g l =
    let list = g.B.Buffer.list l.source.buffer.now in
    let by_map = mapped l.source.each.now.maps l.source.map in
    record {
      low : l.fn.self.back.tick ≤ℤ l.self.back.tick;
      high : l.self.back.tick ≤ℤ l.last;
      knows : Knows list (stored l.self l.next);
      reducer : kind_reducer l.self.kind ≡ kind_reducer l.fn.self.kind;
      held : (first : ℤ) → first ≤ℤ l.fn.self.back.tick → Holds list by_map first l.fn.self
          → Holds list by_map first (stored l.self l.next);
    }

abbrev pub decreases-loop-mark : goal.decreases-loop-mark
decreases-loop-mark g l = int_gap l.self.back.tick l.last
