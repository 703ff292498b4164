use Rattle.std.proofs.Common.{◌≡◌, suc, ◌-◌, FitsSigned, w32, w64, arith}
use Rattle.std.proofs.lemmas.Int.{ints, to_z-of_z}
use Rattle.std.specs.Int.{w128}
use Rattle.tilt_zones.proofs.ShownLemmas.{IsMomentBy, are_moments_first, are_moments_next}
use Rattle.tilt_zones.specs.Order.{shown_from}
use Rattle.tilt_zones.specs.Place.{IsPlaceOf}
use Rattle.tilt_zones.proofs.moments.moments_of.Goals as goal

pub returns-then-count-eq0 : goal.returns-then-count-eq0
returns-then-count-eq0 c end =
    let fits : FitsSigned w64 c.args.local = c.ranges.local in
    let first_fits : FitsSigned w32 c.args.first = c.ranges.first in
    let from : c.from.result ≡ c.args.local = omega (arith, ints) in
    let wide : FitsSigned w128 c.from.result = omega (arith, ints) in
    let place : IsPlaceOf shown_from c.args.transitions.now c.args.local c.count_from-count.result = rw (← from) (simp to_z-of_z at c.count_from-count.ensures) in
    let later : IsMomentBy c.args.first c.args.transitions.now c.args.local c.count_from-count.result c.moment_after-later.result = simp to_z-of_z at c.moment_after-later.ensures in
    rw c.moments_from.ensures (are_moments_first c.args.first c.args.transitions.now end c.args.local c.count_from-count.result
    c.moment_after-later.result c.requires place c.if-count-eq0.true later)

pub returns : goal.returns
returns c end =
    let fits : FitsSigned w64 c.args.local = c.ranges.local in
    let first_fits : FitsSigned w32 c.args.first = c.ranges.first in
    let from : c.from.result ≡ c.args.local = omega (arith, ints) in
    let wide : FitsSigned w128 c.from.result = omega (arith, ints) in
    let place : IsPlaceOf shown_from c.args.transitions.now c.args.local c.count_from-count.result = rw (← from) (simp to_z-of_z at c.count_from-count.ensures) in
    let later : IsMomentBy c.args.first c.args.transitions.now c.args.local c.count_from-count.result c.moment_after-later.result = simp to_z-of_z at c.moment_after-later.ensures in
    let earlier : IsMomentBy c.args.first c.args.transitions.now c.args.local (c.count_from-count.result - 1) c.moment_after.result = simp to_z-of_z at c.moment_after.ensures in
    let last : suc (c.count_from-count.result - 1) ≡ c.count_from-count.result = omega arith in
    rw c.moments_from-2.ensures (are_moments_next c.args.first c.args.transitions.now end c.args.local c.count_from-count.result
    (c.count_from-count.result - 1) c.moment_after.result c.moment_after-later.result c.requires place last earlier later)
