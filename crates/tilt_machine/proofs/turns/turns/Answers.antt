use Rattle.std.proofs.Common.{◌≡◌, ◌∙◌, ◌<ℤ◌, ◌≤ℤ◌, ◌+ℤ◌, pos, neg_ℤ, ap, sym, refl, w64, to_z, of_z, map, FitsSigned, arith, rules}
use Rattle.std.proofs.lemmas.Int.{ints, to_z-of_z}
use Rattle.tilt_base.proofs.GridPoints.{ceil-low}
use Rattle.tilt_base.specs.Grid.{ceil}
use Rattle.tilt_base.specs.declared.limits.TheConstants.{WIDE}
use Rattle.tilt_code.specs.Body.{body_of}
use Rattle.tilt_code.specs.Code.{LoopParts}
use Rattle.tilt_code.specs.Turn.{turns}
use Rattle.tilt_machine.proofs.TurnSteps.{turn-bounds, turns-step, points-rise, all-kept}
use Rattle.tilt_machine.specs.Lists.{lists_of}
use Rattle.tilt_stream.proofs.Order.{last_end-after_push}
use Rattle.tilt_stream.specs.Snap.{Snapshot}
use Rattle.tilt_stream.specs.Stream.{stream_of}
use Rattle.tilt_machine.proofs.turns.turns.Goals as goal

pub loop-start-init : goal.loop-start-init
loop-start-init c =
    let each = c.args.each.now in
    let buffers = c.args.buffers.now in
    let lists = lists_of buffers in
    let ready = c.requires.ready in
    let fits : FitsSigned w64 c.each.inside.lo = search rules in
    let lo : to_z w64 (of_z w64 c.each.inside.lo) ≡ each.lo = to_z-of_z w64 c.each.inside.lo fits ∙ ap (λ (l : LoopParts). l.lo) c.each.view_is in
    let above = ceil-low each.grid (each.lo +ℤ pos 1) ready.grid.period_low in
    let begins : each.lo ≤ℤ ceil each.grid (each.lo +ℤ pos 1) = omega (arith, ints) in
    let low : neg_ℤ WIDE ≤ℤ each.lo = ready.stretch.low in
    let some = ready.stretch in
    let none = c.new-list.ensures in
    record {
      made = rw (none, lo) refl;
      touches = λ x is. let no = rw none at is in absurd (cc no);
      low = rw lo (omega (arith, ints));
      high = rw lo (omega (arith, ints));
      fit = rw lo (each.lo, begins, c.in_ok-state.ensures lists each.lo ready low);
    }

pub turn-requires-clause-kept : goal.turn-requires-clause-kept
turn-requires-clause-kept c =
    all-kept (lists_of c.args.buffers.now) _ c.args.each.now.body

pub push-requires-clause-high : goal.push-requires-clause-high
push-requires-clause-high c =
    let each = c.args.each.now in
    let start = to_z w64 c.loop-start.start-bits in
    let hi : c.each.inside.hi ≡ each.hi = ap (λ (l : LoopParts). l.hi) c.each.view_is in
    let some : start <ℤ each.hi = grind (arith, ints) in
    let bounds = turn-bounds (body_of (map stream_of (lists_of c.args.buffers.now)) each)
    each.grid each.hi start c.in_ok-snap.snap c.requires.ready.grid some c.in_ok-snap.ensures.snap in
    let below = bounds.1 in
    let limit = c.requires.ready.stretch.high in
    omega (arith, ints)

pub loop-start-preserved : goal.loop-start-preserved
loop-start-preserved c =
    let each = c.args.each.now in
    let xs = map stream_of (lists_of c.args.buffers.now) in
    let body = body_of xs each in
    let start = to_z w64 c.loop-start.start-bits in
    let hi : c.each.inside.hi ≡ each.hi = ap (λ (l : LoopParts). l.hi) c.each.view_is in
    let some : start <ℤ each.hi = grind (arith, ints) in
    let bounds = turn-bounds body each.grid each.hi start c.in_ok-snap.snap c.requires.ready.grid some c.in_ok-snap.ensures.snap in
    let above = bounds.0 in
    let below = bounds.1 in
    let fits : FitsSigned w64 c.snap.inside.end = search rules in
    let end : to_z w64 (of_z w64 c.snap.inside.end) ≡ c.in_ok-snap.snap.end =
    to_z-of_z w64 c.snap.inside.end fits ∙ ap (λ (s : Snapshot). s.end) c.snap.view_is in
    let low = c.loop-start.invariant.low in
    let onwards : start ≤ℤ c.in_ok-snap.snap.end = omega (arith, ints) in
    record {
      made = turns-step body each.grid each.hi start (to_z w64 (of_z w64 c.snap.inside.end)) c.loop-start.list c.push.new.self
          (turns xs each) c.in_ok-snap.snap c.requires.ready.grid some c.in_ok-snap.ensures.snap end c.in_ok-push.ensures.ok
          c.loop-start.invariant.made;
      touches = λ x is. last_end-after_push c.loop-start.list c.push.new.self c.in_ok-snap.snap x c.in_ok-push.ensures.ok is ∙ sym end;
      low = rw end (omega (arith, ints));
      high = rw end below;
      fit = rw end (
        ceil each.grid (start +ℤ pos 1),
        points-rise each.grid start c.in_ok-snap.snap.end c.requires.ready.grid onwards,
        c.in_ok-snap.ensures.fit,
      );
    }
