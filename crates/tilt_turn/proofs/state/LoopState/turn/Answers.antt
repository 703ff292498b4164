use Rattle.std.proofs.Common.{◌≡◌, ◌∙◌, ap, sym, subst, FitsSigned, w64, to_z, of_z, pos, ◌+ℤ◌, ℤ, List, Option, map, drop, length, rules, arith}
use Rattle.std.specs.List.{AllByRecursion}
use Rattle.std.proofs.lemmas.Int.{to_z-of_z}
use Rattle.std.proofs.lemmas.List.{length-map, take_at}
use Rattle.tilt_base.specs.Grid.{ceil}
use Rattle.tilt_code.proofs.Turns.{turn-ends}
use Rattle.tilt_code.specs.Body.{body_of}
use Rattle.tilt_code.specs.Turn.{turn}
use Rattle.tilt_stream.specs.Stream.{stream_of}
use Rattle.tilt_turn.proofs.Placing.{placed-later}
use Rattle.tilt_turn.proofs.Registers.{stand-length}
use Rattle.tilt_turn.proofs.Stepwise.{all-weaker}
use Rattle.tilt_turn.specs.Held.{AreAllRead, ConstantsStand, IsPlacedBy, places_of}
use Rattle.tilt_turn.specs.Sight.{Sees}
use Rattle.tilt_turn.proofs.state.LoopState.turn.Goals as goal
use Rattle.tilt_turn.proofs.state.LoopState.turn.Goals.{After-turn_end-end, In_ok-seen}
use Rattle.tilt_turn.proofs.state.LoopState.turn.Given.{Over}

pub body_seen-requires-clause-may : goal.body_seen-requires-clause-may
body_seen-requires-clause-may g c =
    let each = c.args.each.now in
    let lists = g.S.Buffers.lists c.args.buffers.now in
    let cells = c.args.self.now.registers.items in
    let point = c.point_of-point.result in
    let fits : FitsSigned w64 point = search rules in
    let value : point ≡ ceil each.grid (c.args.start +ℤ pos 1) =
    rw (to_z-of_z w64 c.args.start c.ranges.start) at c.point_of-point.ensures.value in
    let fit = c.requires.fit.2 in
    rw (to_z-of_z w64 point fits, value, c.deref_mut.ensures.value, c.deref_mut-2.ensures.value) (record {
      all = fit.all;
      fit = all-weaker (IsPlacedBy lists each.maps each.body cells c.requires.fit.0)
          (IsPlacedBy lists each.maps each.body cells (ceil each.grid (c.args.start +ℤ pos 1))) c.args.self.now.leaves.items
          (λ own at. placed-later lists each.maps each.body cells c.requires.fit.0 (ceil each.grid (c.args.start +ℤ pos 1)) own c.requires.fit.1 at)
          fit.leaves;
      stand = fit.registers;
      earlier = c.requires.ready.maps;
      near = rw value at c.point_of-point.ensures.near;
      kept = c.requires.kept;
    })

-- what is seen of the body
seen_is : (g : Over) (c : In_ok-seen g) → Sees (body_of (map stream_of (g.S.Buffers.lists c.args.buffers.now)) c.args.each.now)
    (ceil c.args.each.now.grid (c.args.start +ℤ pos 1)) c.in_ok-seen.seen
seen_is g c =
    let point = c.point_of-point.result in
    let fits : FitsSigned w64 point = search rules in
    let value : point ≡ ceil c.args.each.now.grid (c.args.start +ℤ pos 1) =
    rw (to_z-of_z w64 c.args.start c.ranges.start) at c.point_of-point.ensures.value in
    rw (to_z-of_z w64 point fits, value) at c.in_ok-seen.ensures.seen

-- where the turn ends
end_is : (g : Over) (c : After-turn_end-end g) → to_z w64 (of_z w64 c.turn_end-end.result)
    ≡ (turn (body_of (map stream_of (g.S.Buffers.lists c.args.buffers.now)) c.args.each.now) c.args.each.now.grid c.args.each.now.hi c.args.start).end
end_is g c =
    let each = c.args.each.now in
    let body = body_of (map stream_of (g.S.Buffers.lists c.args.buffers.now)) each in
    let end_fits : FitsSigned w64 c.turn_end-end.result = search rules in
    to_z-of_z w64 c.turn_end-end.result end_fits
    ∙ c.turn_end-end.ensures body c.args.start c.requires.high (seen_is g c.before).next

pub invariant_of-result : goal.invariant_of-result
invariant_of-result g c =
    let each = c.args.each.now in
    let body = body_of (map stream_of (g.S.Buffers.lists c.args.buffers.now)) each in
    rw (to_z-of_z w64 c.args.start c.ranges.start, end_is g c)
    (turn-ends body each.grid c.requires.ready.grid each.hi c.args.start c.requires.high).0

pub returns-clause-snap : goal.returns-clause-snap
returns-clause-snap g c =
    let start = to_z-of_z w64 c.args.start c.ranges.start in
    let end = end_is g c in
    let value = (seen_is g c.before).cell in
    λ i. record { start = start i; end = end i; value = value i }

pub returns-clause-fit : goal.returns-clause-fit
returns-clause-fit g c =
    let lists = g.S.Buffers.lists c.args.buffers.now in
    let each = c.args.each.now in
    let new = c.body_seen.new.leaves in
    let old = c.deref_mut.result.now in
    let stepped = c.in_ok-seen.ensures.stepped in
    let same = ap length stepped.same in
    let a = length-map new places_of in
    let b = length-map old places_of in
    let len : length new ≡ c.args.self.now.leaves.len = omega arith in
    let cells = c.body_seen.new.registers in
    let here : c.deref_mut-2.result.now ≡ c.args.self.now.registers.items = c.deref_mut-2.ensures.value in
    let stand = stepped.stand in
    let many = stand-length each.body cells stand in
    let were = stand-length each.body c.args.self.now.registers.items c.requires.fit.2.registers in
    let room : length cells ≡ c.args.self.now.registers.len = omega arith in
    let registers = take_at cells (drop (length cells) c.args.self.now.registers.items) c.args.self.now.registers.len room in
    let leaves = take_at new (drop (length new) c.args.self.now.leaves.items) c.args.self.now.leaves.len len in
    let point = c.point_of-point.result in
    let fits : FitsSigned w64 point = search rules in
    let at = rw (to_z-of_z w64 point fits) at stepped.fit in
    let value : point ≡ ceil each.grid (c.args.start +ℤ pos 1) = rw (to_z-of_z w64 c.args.start c.ranges.start) at c.point_of-point.ensures.value in
    let places : map places_of new ≡ map places_of c.args.self.now.leaves.items =
    stepped.same ∙ ap (map places_of) c.deref_mut.ensures.value in
    rw (← value) (record {
      all = subst (AreAllRead each.body) (sym (ap (map places_of) leaves ∙ places)) c.requires.fit.2.all;
      leaves = subst (AllByRecursion (IsPlacedBy lists each.maps each.body _ point)) (sym leaves)
          (subst (λ (all : List (Option ℤ)). AllByRecursion (IsPlacedBy lists each.maps each.body all point) new) (sym registers) at);
      computed = c.requires.fit.2.computed;
      registers = subst (ConstantsStand each.body) (sym registers) stand;
    })
