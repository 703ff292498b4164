use Rattle.std.proofs.Common.{◌≡◌, ◌<◌, ◌<ℤ◌, IfSome, refl, sym, ap, ◌∙◌, length, set, arith}
use Rattle.std.proofs.lemmas.List.{length-set}
use Rattle.tilt_turn.proofs.Placing.{SeenBy, just-looked}
use Rattle.tilt_turn.proofs.Stepwise.{all-weaker}
use Rattle.tilt_turn.proofs.TurnTicks.{point-fits}
use Rattle.tilt_turn.proofs.Written.{written-same}
use Rattle.tilt_turn.specs.Held.{IsPlaceOf, origin, places_of}
use Rattle.tilt_turn.specs.Picked.{written}
use Rattle.tilt_turn.proofs.placed.Placed.step.Goals as goal

pub returns-then-lasts_until : goal.returns-then-lasts_until
returns-then-lasts_until g c =
    let r = c.args.reading.now in
    let p = c.args.self.now in
    let cells = c.args.registers.now in
    let lists = g.S.Buffers.lists r.buffers.now in
    let stays : IfSome p.next (λ next. r.point <ℤ next) = (rw (point-fits r.point c.requires.may.near) at c.lasts_until.ensures).0 c.if-lasts_until.true in
    let sees = c.requires.fit.known stays in
    record {
      fit = c.requires.fit;
      same = refl;
      cells = sym (written-same _ (places_of p) cells (all-weaker (SeenBy lists r.each.now.maps r.each.now.body r.point (origin p.leaf) p.next cells) _ (places_of p)
          (λ place is. is.cell) sees));
      next = sees.0.next;
      bounds = sees.0.bounds;
    }

pub write_all-requires : goal.write_all-requires
write_all-requires g c =
    let p = c.args.self.now in
    let body = c.args.reading.now.each.now.body in
    let cell = c.in_ok-seen.seen.cell in
    let cells = c.args.registers.now in
    let room = c.requires.room in
    let long = length-set cells p.place cell in
    rw c.deref.ensures.value
    (all-weaker (IsPlaceOf body (origin p.leaf)) (λ place. place < length (set cells p.place cell)) p.again.items
    (λ place is. let within = is.0 in omega arith) c.requires.fit.places.1)

pub returns : goal.returns
returns g c =
    let r = c.args.reading.now in
    let p = c.args.self.now in
    let lists = g.S.Buffers.lists r.buffers.now in
    let cells = c.args.registers.now in
    let seen = c.in_ok-seen.seen in
    let ensures = c.in_ok-seen.ensures in
    let made : c.write_all.new.registers ≡ written seen.cell (places_of p) cells = rw c.deref.ensures.value at c.write_all.ensures in
    record {
      fit = rw made (just-looked lists r.each.now.maps r.each.now.body r.point cells p c.look.new.self seen ensures
          c.requires.fit.places c.requires.room);
      same = refl;
      cells = made ∙ ap (λ cell. written cell (places_of p) cells) ensures.sees.cell;
      next = ensures.sees.next;
      bounds = ensures.sees.bounds;
    }
