use Rattle.std.proofs.Common.{◌≡◌, IfOk, IfErr, FitsSigned, w32, w64, rules, ap, sym, subst, ◌∙◌}
use Rattle.std.proofs.lemmas.Int.{to_z-of_z}
use Rattle.std.specs.Int.{w128}
use Rattle.tilt_zones.proofs.OutcomeLemmas.{IsFaultOf, IsKnownBy, fault_meant, fault_result, known_result, moment_meant}
use Rattle.tilt_zones.specs.Place.{AreMoments}
use Rattle.tilt_zones.specs.Zone.{IsMomentOf}
use Rattle.tilt_zones.proofs.zone.Zone.moment_of_local.Goals as goal

pub returns-in-Ok : goal.returns-in-Ok
returns-in-Ok c =
    let zone = c.args.self.now in
    let fits : FitsSigned w64 c.args.local = c.ranges.local in
    let first_fits : FitsSigned w32 c.self.inside.first = search rules in
    let are : AreMoments zone c.args.local c.moments_of-moments.result = rw (← c.self.view_is, ← c.deref.ensures.value) (simp to_z-of_z at (c.moments_of-moments.ensures c.self.inside.end)) in
    let meant = subst (λ r. IfOk r (IsMomentOf zone c.args.local c.args.fold)) (sym c.chosen.ensures ∙ c.in-Ok.is) (moment_meant zone c.args.local c.moments_of-moments.result c.args.fold are) in
    let moment_fits : FitsSigned w128 c.in-Ok.moment = search rules in
    let end_fits : FitsSigned w64 c.self.inside.end = search rules in
    let known : IsKnownBy c.self.inside.end c.in-Ok.moment c.known.result = simp to_z-of_z at c.known.ensures in
    let end : c.self.inside.end ≡ zone.end = ap (λ z. z.end) c.self.view_is in
    let result = known_result zone c.args.local c.in-Ok.moment c.args.fold c.known.result meant (rw (← end) known) in
    record { moment = result.moment; skipped = result.skipped; doubled = result.doubled; beyond = result.beyond }

pub returns-in-Err : goal.returns-in-Err
returns-in-Err c =
    let zone = c.args.self.now in
    let fits : FitsSigned w64 c.args.local = c.ranges.local in
    let first_fits : FitsSigned w32 c.self.inside.first = search rules in
    let are : AreMoments zone c.args.local c.moments_of-moments.result = rw (← c.self.view_is, ← c.deref.ensures.value) (simp to_z-of_z at (c.moments_of-moments.ensures c.self.inside.end)) in
    let fault = subst (λ r. IfErr r (IsFaultOf zone c.args.local c.args.fold)) (sym c.chosen.ensures ∙ c.in-Err.is) (fault_meant zone c.args.local c.moments_of-moments.result c.args.fold are) in
    let result = fault_result zone c.args.local c.args.fold c.in-Err.fault fault in
    record { moment = result.moment; skipped = result.skipped; doubled = result.doubled; beyond = result.beyond }
