use Rattle.std.proofs.Common.{◌≡◌, ap, length, refl, slice_get, Some, List, subst, arith}
use Rattle.std.proofs.lemmas.List.{length_push}
use Rattle.std.proofs.lemmas.Option.{slice_get_read}
use Rattle.tilt_code.specs.Code.{LoopParts}
use Rattle.tilt_engine.proofs.Beginning.{each-push}
use Rattle.tilt_engine.specs.Standing.{IsFresh}
use Rattle.tilt_turn.specs.declared.state.LoopState.{LoopState}
use Rattle.tilt_engine.proofs.starting.new_states.Goals as goal

pub loop-each-preserved : goal.loop-each-preserved
loop-each-preserved c =
    let loops = c.args.code.now.loops in
    let states = c.loop-each.states.items in
    let index = c.loop-each.each-index in
    let each = c.each-item.result in
    let made = c.in_ok-new.field-0 in
    let many = c.loop-each.invariant.0 in
    let items = c.in_ok-push.ensures.items in
    let all : c.loops-each-items.result.now ≡ loops = c.loops-each-items.ensures.loops in
    let is : slice_get loops index ≡ Some each =
    subst (λ (list : List LoopParts). slice_get list index ≡ Some each) all
    (slice_get_read c.loops-each-items.result.now (length c.loops-each-items.result.now) index each refl c.loop-each-test.true c.each-item.is) in
    let at : slice_get loops (length states) ≡ Some each = rw many is in (
      omega (arith, ap length items, length_push states made),
      λ k l state of own. each-push IsFresh loops states each made at c.loop-each.invariant.1 c.in_ok-new.ensures k l state of
          (subst (λ (list : List LoopState). slice_get list k ≡ Some state) items own),
    )
