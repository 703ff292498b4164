use Rattle.std.proofs.Common.{◌≡◌, ◌∙◌, sym, ap, subst, ℤ, ◌≤ℤ◌, int_lt, false, FitsSigned, w64, to_z, of_z, arith, rules}
use Rattle.std.proofs.lemmas.Int.{ints, clamps, to_z-of_z}
use Rattle.std.proofs.lemmas.Result.{on_ok_weaker}
use Rattle.std.specs.Int.{int_max}
use Rattle.tilt_code.specs.Body.{mapped}
use Rattle.tilt_stream.specs.declared.cursor.Cursor.{Cursor}
use Rattle.tilt_turn.proofs.Cursors.{kept-later}
use Rattle.tilt_turn.proofs.Moves.{holds-beside}
use Rattle.tilt_turn.proofs.Staying.{knows-too}
use Rattle.tilt_turn.specs.Held.{Holds}
use Rattle.tilt_turn.specs.Kinds.{kind_reducer}
use Rattle.tilt_turn.specs.declared.moving.Moving.{Moving}
use Rattle.tilt_turn.proofs.moving.Moving.begin_from.Goals as goal

not-below : (a b : ℤ) → int_lt a b ≡ false → b ≤ℤ a
not-below a b is = grind (arith, ints)

-- the window is at the first tick or above it
first-within : (first tick result : ℤ) → FitsSigned w64 first → FitsSigned w64 result → result ≡ tick
    → int_lt (to_z w64 (of_z w64 result)) (to_z w64 (of_z w64 first)) ≡ false → first ≤ℤ tick
first-within first tick result fits tick_fits is below =
    rw (← is) (not-below result first (rw (to_z-of_z w64 first fits, to_z-of_z w64 result tick_fits) at below))

pub find_next-requires-clause-knows : goal.find_next-requires-clause-knows
find_next-requires-clause-knows g c =
    let tick_fits : FitsSigned w64 c.tick.result = search rules in
    let within = first-within c.args.first c.args.self.now.back.tick c.tick.result c.ranges.first tick_fits c.tick.ensures c.if-tick-first.false in
    let low = c.requires.begins.1 in
    c.requires.begins.2.known (omega (arith, ints))

pub find_next-requires-clause-kept : goal.find_next-requires-clause-kept
find_next-requires-clause-kept g c =
    let buffer = c.args.source.now.buffer.now in
    let tick_fits : FitsSigned w64 c.tick.result = search rules in
    kept-later (g.B.Buffer.list buffer) (g.B.Buffer.forgotten buffer) c.args.first c.args.self.now.back.tick c.requires.kept
    (first-within c.args.first c.args.self.now.back.tick c.tick.result c.ranges.first tick_fits c.tick.ensures c.if-tick-first.false)

pub returns-else-tick-first-clause-moved : goal.returns-else-tick-first-clause-moved
returns-else-tick-first-clause-moved g c =
    let list = g.B.Buffer.list c.args.source.now.buffer.now in
    let fits = to_z-of_z w64 c.args.first c.ranges.first in
    let tick_fits : FitsSigned w64 c.tick.result = search rules in
    let w = c.args.self.now in
    let onwards = first-within c.args.first w.back.tick c.tick.result c.ranges.first tick_fits c.tick.ensures c.if-tick-first.false in
    let most : w.back.tick ≡ int_max c.args.first w.back.tick = omega (arith, ints, clamps) in
    let found = c.find_next.ensures in
    let drops = c.drop_before.ensures in
    on_ok_weaker c.drop_before.result
    (λ reducer. record {
      stands = ap (λ (b : Cursor). b.tick) drops.back ∙ ap (λ (m : Moving). m.back.tick) found.same ∙ most;
      knows = knows-too list c.find_next.new.self c.drop_before.new.self found.knows drops.back drops.next;
      reducer = reducer ∙ ap (λ (m : Moving). kind_reducer m.kind) found.same;
    }) drops.reducer

pub returns-else-tick-first-clause-held : goal.returns-else-tick-first-clause-held
returns-else-tick-first-clause-held g c =
    let s = c.args.source.now in
    let list = g.B.Buffer.list s.buffer.now in
    let fits = to_z-of_z w64 c.args.first c.ranges.first in
    let by_map = mapped s.each.now.maps s.map in
    let dropped = rw fits at c.drop_before.ensures.held in
    on_ok_weaker c.drop_before.result
    (λ drops. drops list by_map c.requires.begins.0 c.requires.begins.1
    (subst (Holds list by_map c.requires.begins.0) (sym c.find_next.ensures.same)
    (holds-beside list by_map c.requires.begins.0 c.args.self.now c.find_next.new.self.next c.requires.begins.2.held)))
    dropped
