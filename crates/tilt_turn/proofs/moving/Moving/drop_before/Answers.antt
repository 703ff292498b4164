use Rattle.std.proofs.Common.{◌≡◌, ◌≤ℤ◌, ◌∙◌, ap, w64, to_z, of_z, arith}
use Rattle.std.proofs.lemmas.Int.{ints, to_z-of_z}
use Rattle.tilt_stream.proofs.Constancy.{stream_of-changes}
use Rattle.tilt_stream.specs.Stream.{stream_of}
use Rattle.tilt_stream.specs.declared.cursor.Cursor.{Cursor}
use Rattle.tilt_turn.proofs.Moves.{dropped, all-dropped}
use Rattle.tilt_turn.specs.Kinds.{kind_cells}
use Rattle.tilt_turn.proofs.moving.Moving.drop_before.Goals as goal

pub loop-self-preserved : goal.loop-self-preserved
loop-self-preserved c =
    let w = c.loop-self.self in
    let i = c.loop-self.invariant in
    let first = to_z w64 (of_z w64 c.args.first) in
    let fits = to_z-of_z w64 c.args.first c.ranges.first in
    let back : w.back.tick ≡ c.args.self.now.back.tick = ap (λ (b : Cursor). b.tick) i.back in
    let some = c.requires.some in
    let mark = c.has_mark_within.ensures.0 c.loop-self-test.true in
    record {
      back = i.back;
      next = i.next;
      reducer = c.in_ok-pop_front.ensures.reducer ∙ i.reducer;
      held = λ list by_map begin low holds.
          let h = i.held list by_map begin low holds in
          let before = h.low in
          let within : h.begin ≤ℤ w.back.tick = rw back (omega (arith, ints)) in
          let met = dropped (stream_of list) by_map h.begin mark.0 w.back.tick (kind_cells w.kind) (kind_cells c.pop_front.new.self) w.marks.items
          c.pop_front-in-loop-self.new.self.items c.in_ok-pop_front.field-0 within
          (record { cells_met = h.holds.cells; marks_met = h.holds.marks }) mark.1 c.in_ok-pop_front.ensures.taken
          c.pop_front-in-loop-self.ensures.rest in
          record { begin = mark.0; low = mark.2; holds = record { cells = met.cells_met; marks = met.marks_met } };
    }

pub returns-clause-held : goal.returns-clause-held
returns-clause-held c =
    let w = c.loop-self.self in
    let i = c.loop-self.invariant in
    let fits = to_z-of_z w64 c.args.first c.ranges.first in
    let back : w.back.tick ≡ c.args.self.now.back.tick = ap (λ (b : Cursor). b.tick) i.back in
    let test = rw fits at c.has_mark_within.ensures in
    let some = c.requires.some in
    λ list by_map begin low holds.
    let h = i.held list by_map begin (rw fits low) holds in
    let before = rw fits at h.low in
    let within : c.args.first ≤ℤ w.back.tick = rw back (omega (arith, ints)) in
    let met = all-dropped (stream_of list) by_map h.begin c.args.first w.back.tick (kind_cells w.kind) w.marks.items (stream_of-changes list) before within
    (record { cells_met = h.holds.cells; marks_met = h.holds.marks })
    (λ mark is below. let yes = test.1 (mark, is, below) in let no = c.loop-self-test.false in cc) in
    record { cells = met.cells_met; marks = met.marks_met }
