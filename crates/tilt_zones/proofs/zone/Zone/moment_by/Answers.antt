use Rattle.std.proofs.Common.{◌≡◌, FitsSigned, w32, w64, rules, ap, subst}
use Rattle.std.proofs.lemmas.Int.{to_z-of_z}
use Rattle.std.specs.Int.{w128}
use Rattle.tilt_zones.proofs.OutcomeLemmas.{IsKnownBy}
use Rattle.tilt_zones.proofs.TakenMoments.{IsKnownOf, known_of}
use Rattle.tilt_zones.specs.Taken.{IsByOffset, moment_by}
use Rattle.tilt_zones.proofs.zone.Zone.moment_by.Goals as goal

pub returns : goal.returns
returns c =
    let zone = c.args.self.now in
    let fits : FitsSigned w64 c.args.local = c.ranges.local in
    let first_fits : FitsSigned w32 c.self.inside.first = search rules in
    let m_fits : FitsSigned w128 c.moment_by.result = search rules in
    let end_fits : FitsSigned w64 c.self.inside.end = search rules in
    let by : c.moment_by.result ≡ moment_by zone c.args.fold c.args.local = rw (← c.self.view_is, ← c.deref.ensures.value) (simp to_z-of_z at (c.moment_by.ensures.by c.self.inside.end)) in
    let offset : IsByOffset zone c.args.local c.args.fold c.moment_by.result = rw (← c.self.view_is, ← c.deref.ensures.value) (simp to_z-of_z at (c.moment_by.ensures.offset c.self.inside.end)) in
    let known : IsKnownBy c.self.inside.end c.moment_by.result c.known.result = simp to_z-of_z at c.known.ensures in
    let end : c.self.inside.end ≡ zone.end = ap (λ z. z.end) c.self.view_is in
    let outcome = known_of zone c.moment_by.result c.known.result (rw (← end) known) in
    record { by = subst (λ m. IsKnownOf zone m c.known.result) by outcome; offset = subst (λ m. IsByOffset zone c.args.local c.args.fold m) by offset }
