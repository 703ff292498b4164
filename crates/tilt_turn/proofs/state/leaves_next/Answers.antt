use Rattle.std.proofs.Common.{◌≡◌, ◌∙◌, ◌<◌, sym, ap, subst, pos, List, [], map, take, length, get_or, ℕ, ℤ, Option, refl, arith}
use Rattle.std.proofs.lemmas.List.{get_or-map, length-map, take_all, take_more}
use Rattle.std.specs.List.{AllByRecursion}
use Rattle.tilt_base.proofs.Lists.{all-at, all-push}
use Rattle.tilt_code.specs.Body.{body_of, leaf_of}
use Rattle.tilt_code.specs.Code.{Block}
use Rattle.tilt_code.specs.declared.instr.Instr.{Instr}
use Rattle.tilt_code.specs.declared.instr.Instr.TheVariants.{Const, Null}
use Rattle.tilt_stream.proofs.Ended.{names-same}
use Rattle.tilt_stream.specs.Marks.{NamesNextMark}
use Rattle.tilt_stream.specs.Stream.{stream_of}
use Rattle.tilt_turn.proofs.NextMarks.{body-next, first_of, leaves-equal, leaves-marks}
use Rattle.tilt_turn.proofs.Numbered.{read-map}
use Rattle.tilt_turn.proofs.Origins.{origin-holds, origin-reads}
use Rattle.tilt_turn.proofs.Placing.{placed-step}
use Rattle.tilt_turn.proofs.Registers.{reads-stand, stand-length}
use Rattle.tilt_turn.proofs.Repeats.{AreRight, right-all, right-here, right-stays}
use Rattle.tilt_turn.proofs.Stepwise.{all-weaker, said-step}
use Rattle.tilt_turn.proofs.Written.{written-stand}
use Rattle.tilt_turn.specs.Held.{IsPlaceOf, IsPlacedBy, IsStanding, origin, places_of}
use Rattle.tilt_turn.specs.Picked.{reads, written}
use Rattle.tilt_turn.specs.Ready.{IsKept}
use Rattle.tilt_turn.specs.declared.placed.Placed.{Placed}
use Rattle.tilt_turn.proofs.state.leaves_next.Goals as goal

pub loop-number-init : goal.loop-number-init
loop-number-init g c = record {
  stepped = record { fit = c.requires.may.fit; same = refl; stand = c.requires.may.stand };
  read = tt;
  next = λ other above. refl;
  bounds = tt;
}

pub step-requires : goal.step-requires
step-requires g c =
    let r = c.args.reading.now in
    let own = c.index-leaves-number.result in
    let own_is = c.index-leaves-number.is in
    let stepped = c.loop-number.invariant.stepped in
    let kept : Instr → Type 0 = IsKept (g.S.Buffers.lists r.buffers.now) (g.S.Buffers.forgotten r.buffers.now) r.point in
    let many = c.loop-number.auto.leaves in
    let test = c.loop-number-test.true in
    let at = all-at _ c.loop-number.leaves c.loop-number.number own stepped.fit (omega arith) own_is in
    record {
      room = stand-length r.each.now.body c.loop-number.registers stepped.stand;
      may = record {
        earlier = c.requires.may.earlier;
        near = c.requires.may.near;
        kept = subst (λ (p : Placed). kept (origin p.leaf)) own_is (origin-holds kept r.each.now.body own c.requires.may.kept at.places);
      };
      fit = rw (← own_is) at;
    }

pub loop-number-preserved : goal.loop-number-preserved
loop-number-preserved g c =
    let r = c.args.reading.now in
    let lists = g.S.Buffers.lists r.buffers.now in
    let xs = map stream_of lists in
    let each = r.each.now in
    let body = each.body in
    let leaves = c.loop-number.leaves in
    let cells = c.loop-number.registers in
    let i = c.loop-number.number in
    let own = c.index-leaves-number.result in
    let own_is = c.index-leaves-number.is in
    let inv = c.loop-number.invariant in
    let stepped = inv.stepped in
    let leaf : Instr → Option ℤ = λ instr. (leaf_of xs each.maps instr).cell r.point in
    let many = c.loop-number.auto.leaves in
    let test = c.loop-number-test.true in
    let within : i < length leaves = omega arith in
    let at = all-at (IsPlacedBy lists each.maps body cells r.point) leaves i own stepped.fit within own_is in
    let instr = origin own.leaf in
    let cell = leaf instr in
    let places = places_of own in
    let all = map places_of c.args.leaves.now in
    let new : c.step.new.registers ≡ written cell places cells =
    subst (λ (p : Placed). c.step.new.registers ≡ written (leaf (origin p.leaf)) (places_of p) cells) (sym own_is) c.in_ok-above.ensures.cells in
    let told : NamesNextMark (leaf_of xs each.maps instr) r.point c.in_ok-above.above = rw (sym own_is) at c.in_ok-above.ensures.next in
    let right : AllByRecursion (λ place. leaf (get_or body place (Const (pos 0))) ≡ cell) places =
    all-weaker (IsPlaceOf body instr) _ places (λ place is. ap leaf is.1) at.places in
    let count = stand-length body cells stepped.stand in
    let room : AllByRecursion (λ place. place < length cells) places =
    all-weaker (IsPlaceOf body instr) _ places (λ place is. let below = is.0 in omega arith) at.places in
    let here = ap length stepped.same in
    let a = length-map leaves places_of in
    let below : i < length all = omega arith in
    let b = length-map all (first_of body) in
    let own_places : get_or all i [] ≡ places =
    sym (ap (λ (ps : List (List ℕ)). get_or ps i []) stepped.same) ∙ read-map places_of leaves i own [] (omega arith) own_is in
    let at_first : get_or (map (first_of body) all) i Null ≡ instr =
    get_or-map (first_of body) all i [] Null below ∙ ap (first_of body) own_places ∙ at.places.0.1 in
    record {
      stepped = record {
        fit = rw new (placed-step lists each.maps body r.point cells cell places i leaves c.step.new.self right
            (rw new at c.in_ok-above.ensures.fit) stepped.fit);
        same = said-step places_of i leaves own c.step.new.self within c.in_ok-above.ensures.same ∙ stepped.same;
        stand = rw new (written-stand body cell places cells
            (all-weaker (IsPlaceOf body instr) (λ place. IsStanding (get_or body place (Const (pos 0))) cell) places
            (λ place is. reads-stand _ cell (ap reads is.1 ∙ origin-reads own.leaf)) at.places) stepped.stand);
      };
      read = rw (new, take_more all i [] below, own_places)
          (all-push (AreRight leaf body (written cell places cells)) (take i all) places
          (right-stays leaf body cell places cells (take i all) right inv.read) (right-here leaf body cell places cells right room));
      next = body-next xs each (map (first_of body) all) i Null r.point c.lesser-next.result (omega arith)
          (rw at_first (c.lesser-next.ensures.next (body_of xs (record each { body = take i (map (first_of body) all) }))
          (leaf_of xs each.maps instr) r.point inv.next told));
      bounds = c.lesser-next.ensures.bounds inv.bounds c.in_ok-above.ensures.bounds;
    }

pub returns-clause-read : goal.returns-clause-read
returns-clause-read g c =
    let r = c.args.reading.now in
    let each = r.each.now in
    let leaf : Instr → Option ℤ = λ instr. (leaf_of (map stream_of (g.S.Buffers.lists r.buffers.now)) each.maps instr).cell r.point in
    let all = map places_of c.args.leaves.now in
    let count = length-map c.args.leaves.now places_of in
    let test = c.loop-number-test.false in
    right-all leaf each.body c.loop-number.registers all c.requires.may.all
    (subst (AllByRecursion (AreRight leaf each.body c.loop-number.registers)) (take_all c.loop-number.number all (omega arith))
    c.loop-number.invariant.read)

pub returns-clause-next : goal.returns-clause-next
returns-clause-next g c =
    let r = c.args.reading.now in
    let lists = g.S.Buffers.lists r.buffers.now in
    let xs = map stream_of lists in
    let each = r.each.now in
    let all = map places_of c.args.leaves.now in
    let block = map (first_of each.body) all in
    let count = length-map c.args.leaves.now places_of in
    let most = length-map all (first_of each.body) in
    let test = c.loop-number-test.false in
    let equal = leaves-equal lists each.maps each.body c.args.registers.now r.point c.args.leaves.now c.requires.may.fit in
    names-same (body_of xs each) (body_of xs (record each { body = block })) r.point
    (λ other above. leaves-marks xs each.maps other each.body all equal c.requires.may.all) c.loop-number.next
    (subst (λ (b : Block). NamesNextMark (body_of xs (record each { body = b })) r.point c.loop-number.next)
    (take_all c.loop-number.number block (omega arith)) c.loop-number.invariant.next)
