use Rattle.std.proofs.Common.{FitsSigned, w64, sym, pos, ◌+ℤ◌, rules}
use Rattle.std.proofs.lemmas.Int.{to_z-of_z}
use Rattle.tilt_base.specs.declared.limits.TheConstants.{WIDE}
use Rattle.tilt_stream.specs.Stream.{stream_of}
use Rattle.tilt_turn.proofs.MarkBounds.{held-next, later-next, held-bounds, later-bounds}
use Rattle.tilt_turn.specs.Held.{known_next}
use Rattle.tilt_turn.proofs.moving.Moving.next_within.Goals as goal

pub returns-in-Some-clause-next : goal.returns-in-Some-clause-next
returns-in-Some-clause-next c =
    let fits : FitsSigned w64 c.in-Some.mark = search rules in
    let w = c.args.self.now in
    λ list by_map first some held knows.
    rw (to_z-of_z w64 c.in-Some.mark fits)
    (held-next (stream_of list) first w.back.tick c.in-Some.mark w.marks.items some held.marks (sym c.in-Some.ensures)).0

pub returns-in-Some-clause-bounds : goal.returns-in-Some-clause-bounds
returns-in-Some-clause-bounds c =
    let fits : FitsSigned w64 c.in-Some.mark = search rules in
    let w = c.args.self.now in
    λ list by_map first some held knows.
    let next = held-next (stream_of list) first w.back.tick c.in-Some.mark w.marks.items some held.marks (sym c.in-Some.ensures) in
    rw (to_z-of_z w64 c.in-Some.mark fits) (held-bounds first w.back.tick c.in-Some.mark (WIDE +ℤ pos 1) next.0.above next.1)

pub returns-in-None-clause-next : goal.returns-in-None-clause-next
returns-in-None-clause-next c =
    let w = c.args.self.now in
    λ list by_map first some held knows.
    rw c.next_behind.ensures
    (later-next (stream_of list) first w.back.tick w.marks.items (known_next w.next) some held.marks (sym c.in-None.ensures) knows.next)

pub returns-in-None-clause-bounds : goal.returns-in-None-clause-bounds
returns-in-None-clause-bounds c =
    let w = c.args.self.now in
    λ list by_map first some held knows.
    rw c.next_behind.ensures
    (later-bounds (stream_of list) first w.back.tick (WIDE +ℤ pos 1) (known_next w.next) some knows.next knows.high)
