use Rattle.std.proofs.Common.{◌≡◌, ◌-◌, IsTrue, FitsSigned, w32, refl, subst, sym, rules}
use Rattle.std.proofs.lemmas.Int.{to_z-of_z}
use Rattle.tilt_zones.proofs.OrderLemmas.{followed_before, more_followed}
use Rattle.tilt_zones.specs.Order.{IsFollowedBy, offset_after, transition_at}
use Rattle.tilt_zones.proofs.order.is_in_order.Goals as goal

pub returns-then-not-is_followed_by : goal.returns-then-not-is_followed_by
returns-then-not-is_followed_by c =
    let first_fits : FitsSigned w32 c.args.first = c.ranges.first in
    let offset_fits : FitsSigned w32 c.offset_after-before.result = search rules in
    let offset : c.offset_after-before.result ≡ offset_after c.args.first c.args.transitions.now (c.loop-i.i - 1) = simp to_z-of_z at c.offset_after-before.ensures in
    let told = simp to_z-of_z at c.is_followed_by.ensures in (
      λ f. cc,
      λ order. subst IsTrue c.if-not-is_followed_by.true (told.1 (rw offset (followed_before c.args.first c.args.transitions.now c.loop-i.i c.loop-i.auto.i c.loop-i-test.true order))),
    )

pub loop-i-preserved : goal.loop-i-preserved
loop-i-preserved c =
    let first_fits : FitsSigned w32 c.args.first = c.ranges.first in
    let offset_fits : FitsSigned w32 c.offset_after-before.result = search rules in
    let offset : c.offset_after-before.result ≡ offset_after c.args.first c.args.transitions.now (c.loop-i.i - 1) = simp to_z-of_z at c.offset_after-before.ensures in
    let told = simp to_z-of_z at c.is_followed_by.ensures in
    let ts = c.args.transitions.now in
    let before = offset_after c.args.first ts (c.loop-i.i - 1) in
    let followed : IsFollowedBy before (transition_at ts (c.loop-i.i - 1)) (transition_at ts c.loop-i.i) =
    rw (← offset) (told.0 (subst IsTrue (sym c.if-not-is_followed_by.false) refl)) in
    simp to_z-of_z (more_followed c.args.first c.args.transitions.now c.loop-i.i c.loop-i.auto.i (simp to_z-of_z at c.loop-i.invariant) followed)
