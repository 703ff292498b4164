use Rattle.std.proofs.Common.{refl}
use Rattle.tilt_port.proofs.Pieces.{moments-noted, piece-read}
use Rattle.tilt_port.proofs.mem_port.MemPortPort.read.Goals as goal

pub returns-clause-read : goal.returns-clause-read
returns-clause-read c =
    let there = rw c.deref-2.ensures.value at c.copy_next-count.ensures.there in
    let room = rw c.deref-2.ensures.value at c.copy_next-count.ensures.room in
    rw (c.note.ensures.appended, ← c.self.view_is) (λ _. record {
      asked = rw (c.len.ensures, c.saturating_sub.ensures, c.len-2.ensures, c.self.inside.written.ok.0) (moments-noted _ _ _ _ _);
      piece = rw room (piece-read _ _ _ _ there);
      ended = refl;
      written = refl;
      held_back = refl;
    })

pub returns-clause-end : goal.returns-clause-end
returns-clause-end c =
    let some = rw c.deref-2.ensures.value at c.copy_next-count.ensures.some in
    rw (← c.self.view_is) (some c.requires)
