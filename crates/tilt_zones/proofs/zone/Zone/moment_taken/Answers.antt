use Rattle.std.proofs.Common.{Err, FitsSigned, w64, ap, refl, subst}
use Rattle.std.proofs.lemmas.Int.{to_z-of_z}
use Rattle.tilt_zones.proofs.TakenMoments.{taken_beyond, taken_by, taken_doubled, taken_ok, taken_skipped}
use Rattle.tilt_zones.specs.Order.{IsInOrder}
use Rattle.tilt_zones.proofs.zone.Zone.moment_taken.Goals as goal

pub returns-in-Ok-clause-taken : goal.returns-in-Ok-clause-taken
returns-in-Ok-clause-taken c =
    let fits : FitsSigned w64 c.args.local = c.ranges.local in
    let order = subst (λ z. IsInOrder z.first z.transitions) c.self.view_is c.self.invariant in
    let is = simp to_z-of_z at c.in-Ok.ensures.moment in
    rw (to_z-of_z w64 c.in-Ok.moment is.1.0) (taken_ok c.args.self.now c.args.local c.in-Ok.moment c.args.fold order is.0 is.1)

pub returns-in-Some-clause-taken : goal.returns-in-Some-clause-taken
returns-in-Some-clause-taken c =
    let fits : FitsSigned w64 c.args.local = c.ranges.local in
    let skipped = simp to_z-of_z at c.in-Err-Skipped.ensures.skipped in
    let by = simp to_z-of_z at c.moment_by.ensures.by in
    taken_by c.args.self.now c.args.local c.args.fold c.in-Some.fold c.moment_by.result c.in-Some.is (skipped.0 (ap Err c.in-Err-Skipped.field-0-is)) by

pub returns-in-None-clause-taken : goal.returns-in-None-clause-taken
returns-in-None-clause-taken c =
    let fits : FitsSigned w64 c.args.local = c.ranges.local in
    let skipped = simp to_z-of_z at c.in-Err-Skipped.ensures.skipped in
    taken_skipped c.args.self.now c.args.local c.args.fold c.in-None.is (skipped.0 (ap Err c.in-Err-Skipped.field-0-is))

pub returns-in-Err-Doubled-clause-taken : goal.returns-in-Err-Doubled-clause-taken
returns-in-Err-Doubled-clause-taken c =
    let fits : FitsSigned w64 c.args.local = c.ranges.local in
    let order = subst (λ z. IsInOrder z.first z.transitions) c.self.view_is c.self.invariant in
    let doubled = (simp to_z-of_z at c.in-Err-Doubled.ensures.doubled).0 (ap Err c.in-Err-Doubled.field-0-is) in
    taken_doubled c.args.self.now c.args.local c.args.fold order doubled.0 doubled.1

pub returns-in-Err-Doubled-clause-doubled : goal.returns-in-Err-Doubled-clause-doubled
returns-in-Err-Doubled-clause-doubled c =
    let fits : FitsSigned w64 c.args.local = c.ranges.local in
    let doubled = (simp to_z-of_z at c.in-Err-Doubled.ensures.doubled).0 (ap Err c.in-Err-Doubled.field-0-is) in
    (λ _. doubled, λ _. refl)

pub returns-in-Err-Beyond-clause-taken : goal.returns-in-Err-Beyond-clause-taken
returns-in-Err-Beyond-clause-taken c =
    let fits : FitsSigned w64 c.args.local = c.ranges.local in
    let order = subst (λ z. IsInOrder z.first z.transitions) c.self.view_is c.self.invariant in
    let beyond = (simp to_z-of_z at c.in-Err-Beyond.ensures.beyond).0 (ap Err c.in-Err-Beyond.field-0-is) in
    taken_beyond c.args.self.now c.args.local c.args.fold order beyond
