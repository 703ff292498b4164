use Rattle.std.proofs.Common.{◌≡◌, ◌∙◌, ap, sym, subst, [], map, get_or, Option, None, ℤ, refl, arith}
use Rattle.std.specs.List.{AllByRecursion}
use Rattle.tilt_code.specs.Body.{last_or, leaf_of, with_registers}
use Rattle.tilt_code.specs.declared.instr.Instr.{Instr}
use Rattle.tilt_stream.specs.Stream.{stream_of}
use Rattle.tilt_turn.proofs.Origins.{origin-reads}
use Rattle.tilt_turn.proofs.Picked.{IsPicked, all-picked}
use Rattle.tilt_turn.proofs.Placing.{placed-over}
use Rattle.tilt_turn.proofs.Registers.{computed-all, computed-apart, computed-within, registers-stand, stand-length}
use Rattle.tilt_turn.proofs.Stepwise.{all-weaker}
use Rattle.tilt_turn.specs.Held.{IsPlaceOf, IsPlacedBy, origin, places_of}
use Rattle.tilt_turn.specs.Picked.{computed_by, computes, reads}
use Rattle.tilt_turn.specs.Ready.{IsKept}
use Rattle.tilt_turn.proofs.state.body_seen.Goals as goal

pub compute-requires : goal.compute-requires
compute-requires g c =
    let body = c.args.reading.now.each.now.body in
    let count = stand-length body c.leaves_next.new.registers c.in_ok-next.ensures.stepped.stand in
    rw c.requires.computed (computed-within _ body c.requires.names (omega arith))

pub returns : goal.returns
returns g c =
    let r = c.args.reading.now in
    let body = r.each.now.body in
    let leaf : Instr → Option ℤ = λ instr. (leaf_of (map stream_of (g.S.Buffers.lists r.buffers.now)) r.each.now.maps instr).cell r.point in
    let lists = g.S.Buffers.lists r.buffers.now in
    let ensures = c.in_ok-next.ensures in
    let cells = c.leaves_next.new.registers in
    let listed = subst (AllByRecursion (IsPicked computes (IsKept lists (g.S.Buffers.forgotten r.buffers.now) r.point) body)) (sym c.requires.computed)
    (all-picked computes _ body c.requires.may.kept) in
    let made : c.compute.new.registers ≡ with_registers leaf [] body =
    c.compute.ensures ∙ ap (λ listed. computed_by listed c.leaves_next.new.registers) c.requires.computed
    ∙ computed-all leaf refl [] c.leaves_next.new.registers 0 body refl ensures.stepped.stand ensures.read c.requires.names in
    record {
      stepped = record {
        fit = all-weaker (IsPlacedBy lists r.each.now.maps body cells r.point) _ c.leaves_next.new.leaves
            (λ own at. placed-over lists r.each.now.maps body r.point cells c.compute.new.registers own
            (all-weaker (IsPlaceOf body (origin own.leaf)) _ (places_of own)
            (λ place is. ap (λ all. get_or all place None) c.compute.ensures
            ∙ computed-apart _ body c.args.computed.now cells place listed (ap reads is.1 ∙ origin-reads own.leaf)) at.places) at) ensures.stepped.fit;
        same = ensures.stepped.same;
        stand = rw made (registers-stand leaf refl [] [] body tt);
      };
      seen = record { cell = c.last.ensures ∙ ap (last_or None) made; next = ensures.next; bounds = ensures.bounds };
    }
