use Rattle.std.proofs.Common.{◌≡◌, FitsSigned, w32, w64, rules, sym, ◌∙◌}
use Rattle.std.proofs.lemmas.Int.{to_z-of_z}
use Rattle.tilt_zones.proofs.PlaceLemmas.{offset_is}
use Rattle.tilt_zones.specs.Order.{offset_after}
use Rattle.tilt_zones.specs.Place.{IsPlaceOf}
use Rattle.tilt_zones.proofs.zone.Zone.offset_at.Goals as goal

pub returns : goal.returns
returns c =
    let fits : FitsSigned w64 c.args.moment = c.ranges.moment in
    let first_fits : FitsSigned w32 c.self.inside.first = search rules in
    let offset_fits : FitsSigned w32 c.offset_after.result = search rules in
    let place : IsPlaceOf (λ t. t.moment) c.self.inside.transitions.items c.args.moment c.count_at-count.result = rw (← c.deref.ensures.value) (simp to_z-of_z at c.count_at-count.ensures) in
    let after : c.offset_after.result ≡ offset_after c.self.inside.first c.self.inside.transitions.items c.count_at-count.result =
    rw (← c.deref-2.ensures.value) (simp to_z-of_z at c.offset_after.ensures) in
    rw (to_z-of_z w32 c.offset_after.result offset_fits, ← c.self.view_is) (after ∙
    sym (offset_is c.self.inside.first c.self.inside.transitions.items c.args.moment c.count_at-count.result place))
