use Rattle.std.proofs.Common.{◌≡◌, ◌≤ℤ◌, ◌∙◌, ap, refl, FitsSigned, w64, to_z, of_z, arith, rules}
use Rattle.std.proofs.lemmas.Int.{ints, to_z-of_z}
use Rattle.tilt_code.specs.Body.{mapped}
use Rattle.tilt_stream.proofs.Cut.{int_gap_is}
use Rattle.tilt_stream.specs.Stream.{stream_of}
use Rattle.tilt_stream.specs.declared.cursor.Cursor.{Cursor}
use Rattle.tilt_turn.proofs.Cursors.{kept-later}
use Rattle.tilt_stream.proofs.MarkedTicks.{few-met}
use Rattle.tilt_turn.proofs.Moves.{pushed, moved, stored}
use Rattle.tilt_turn.proofs.Staying.{knows-later}
use Rattle.tilt_turn.specs.Kinds.{kind_cells}
use Rattle.tilt_turn.proofs.moving.Moving.extend.Goals as goal

pub look-seen-requires-clause-kept : goal.look-seen-requires-clause-kept
look-seen-requires-clause-kept g c =
    let s = c.args.source.now in
    let mark_fits : FitsSigned w64 c.in-Some.mark = search rules in
    let i = c.loop-mark.invariant in
    let low = i.low in
    let found = c.in-Some.ensures (g.B.Buffer.list s.buffer.now) c.loop-mark.self.back.tick i.knows.next in
    let above = found.0.above in
    rw (to_z-of_z w64 c.in-Some.mark mark_fits)
    (kept-later (g.B.Buffer.list s.buffer.now) (g.B.Buffer.forgotten s.buffer.now) c.args.self.now.back.tick c.in-Some.mark
    c.requires.kept (omega (arith, ints)))

pub look-seen-requires-clause-onwards : goal.look-seen-requires-clause-onwards
look-seen-requires-clause-onwards g c =
    let mark_fits : FitsSigned w64 c.in-Some.mark = search rules in
    let found = c.in-Some.ensures (g.B.Buffer.list c.args.source.now.buffer.now) c.loop-mark.self.back.tick c.loop-mark.invariant.knows.next in
    let above = found.0.above in
    rw (to_z-of_z w64 c.in-Some.mark mark_fits) (omega (arith, ints))

pub push_marked-requires-clause-few : goal.push_marked-requires-clause-few
push_marked-requires-clause-few g c =
    let s = c.args.source.now in
    let i = c.loop-mark.invariant in
    let low = i.low in
    let high = i.high in
    let first = c.requires.held.0 in
    let begins = c.requires.held.1 in
    let ends = c.requires.held.2 in
    let h = i.held first begins c.requires.held.3 in
    few-met (mapped s.each.now.maps s.map) (stream_of (g.B.Buffer.list s.buffer.now)) first c.loop-mark.self.back.tick
    (kind_cells c.loop-mark.self.kind) (omega (arith, ints)) (omega (arith, ints)) h.cells

pub loop-mark-smaller : goal.loop-mark-smaller
loop-mark-smaller g c =
    let mark = c.in-Some.mark in
    let mark_fits : FitsSigned w64 mark = search rules in
    let last = to_z w64 (of_z w64 c.args.last) in
    let found = c.in-Some.ensures (g.B.Buffer.list c.args.source.now.buffer.now) c.loop-mark.self.back.tick c.loop-mark.invariant.knows.next in
    let above = found.0.above in
    let below = found.1 in
    let moved : c.push_marked.new.self.back ≡ _ =
    c.push_marked.ensures.back ∙ rw (to_z-of_z w64 mark mark_fits) at c.look-seen.ensures.moved in
    let stands : c.push_marked.new.self.back.tick ≡ mark = ap (λ (b : Cursor). b.tick) moved in
    let far = int_gap_is c.loop-mark.self.back.tick last (omega (arith, ints)) in
    let near = int_gap_is mark last below in
    rw stands (omega (arith, ints))

pub loop-mark-preserved : goal.loop-mark-preserved
loop-mark-preserved g c =
    let s = c.args.source.now in
    let w = c.loop-mark.self in
    let i = c.loop-mark.invariant in
    let mark = c.in-Some.mark in
    let mark_fits : FitsSigned w64 mark = search rules in
    let read = to_z-of_z w64 mark mark_fits in
    let found = c.in-Some.ensures (g.B.Buffer.list s.buffer.now) c.loop-mark.self.back.tick i.knows.next in
    let above = found.0.above in
    let below = found.1 in
    let low = i.low in
    let seen = rw read at c.look-seen.ensures in
    let added = c.in_ok-push_marked.ensures in
    let at = added.back ∙ seen.moved in
    let stands : c.push_marked.new.self.back.tick ≡ mark = ap (λ (b : Cursor). b.tick) at in
    let cells = rw seen.cell at added.cells in
    let noted = rw read at added.marks in
    record {
      low = rw stands (omega (arith, ints));
      high = rw stands (omega (arith, ints));
      knows = rw at (record { place = refl; next = seen.next; low = seen.low; high = seen.high });
      reducer = added.reducer ∙ i.reducer;
      held = λ first begins holds.
          let h = i.held first begins holds in
          let met = pushed (stream_of (g.B.Buffer.list s.buffer.now)) (mapped s.each.now.maps s.map) first c.loop-mark.self.back.tick mark
          (kind_cells w.kind) (kind_cells c.push_marked.new.self.kind) w.marks.items c.push_marked.new.self.marks.items
          (omega (arith, ints)) found.0 (record { cells_met = h.cells; marks_met = h.marks }) cells noted in
          record { cells = rw stands met.cells_met; marks = rw stands met.marks_met };
    }

pub returns-clause-moved : goal.returns-clause-moved
returns-clause-moved g c =
    let list = g.B.Buffer.list c.args.source.now.buffer.now in
    let back = c.loop-mark.self.back in
    let i = c.loop-mark.invariant in
    let fits = to_z-of_z w64 c.args.last c.ranges.last in
    let high : back.tick ≤ℤ c.args.last = rw fits at i.high in
    let clear = (rw fits at c.in_default.ensures) list back.tick i.knows.next in
    let stays = rw fits at c.stay_until.ensures in
    record {
      stands = ap (λ (b : Cursor). b.tick) stays;
      knows = knows-later list c.args.last (stored c.loop-mark.self c.loop-mark.next) _ i.knows high clear stays refl;
      reducer = i.reducer;
    }

pub returns-clause-held : goal.returns-clause-held
returns-clause-held g c =
    let s = c.args.source.now in
    let list = g.B.Buffer.list s.buffer.now in
    let w = c.loop-mark.self in
    let back = c.loop-mark.self.back in
    let i = c.loop-mark.invariant in
    let fits = to_z-of_z w64 c.args.last c.ranges.last in
    let high : back.tick ≤ℤ c.args.last = rw fits at i.high in
    let clear = (rw fits at c.in_default.ensures) list back.tick i.knows.next in
    let stands : c.stay_until.new.self.tick ≡ c.args.last = ap (λ (b : Cursor). b.tick) (rw fits at c.stay_until.ensures) in
    let low = i.low in
    λ first begins holds.
    let h = i.held first begins holds in
    let met = moved (stream_of list) (mapped s.each.now.maps s.map) first back.tick c.args.last
    (kind_cells w.kind) w.marks.items (omega (arith, ints)) high clear (record { cells_met = h.cells; marks_met = h.marks }) in
    record { cells = rw stands met.cells_met; marks = rw stands met.marks_met }
