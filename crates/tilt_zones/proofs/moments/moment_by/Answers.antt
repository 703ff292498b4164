use Rattle.std.proofs.Common.{◌≡◌, ◌+◌, pos, ◌-ℤ◌, FitsSigned, w32, w64, rules, arith, add-one, ap, ◌∙◌}
use Rattle.std.proofs.lemmas.Int.{ints, to_z-of_z}
use Rattle.std.specs.Int.{w128}
use Rattle.tilt_zones.proofs.TakenLemmas.{skipped_first, skipped_inside, skipped_second}
use Rattle.tilt_zones.specs.Order.{offset_after, shown_from}
use Rattle.tilt_zones.specs.Place.{IsPlaceOf}
use Rattle.tilt_zones.proofs.moments.moment_by.Goals as goal

pub offset_after-requires-in-Second : goal.offset_after-requires-in-Second
offset_after-requires-in-Second c =
    let fits : FitsSigned w64 c.args.local = c.ranges.local in
    let from : c.from.result ≡ c.args.local = omega (arith, ints) in
    let wide : FitsSigned w128 c.from.result = omega (arith, ints) in
    let place : IsPlaceOf shown_from c.args.transitions.now c.args.local c.count_from-count.result = rw (← from) (simp to_z-of_z at c.count_from-count.ensures) in
    let inside = skipped_inside c.args.first c.args.transitions.now (pos 0) c.args.local c.count_from-count.result c.requires.order place (c.requires.skipped (pos 0)) in
    omega arith

pub returns-in-First : goal.returns-in-First
returns-in-First c =
    let fits : FitsSigned w64 c.args.local = c.ranges.local in
    let first_fits : FitsSigned w32 c.args.first = c.ranges.first in
    let from : c.from.result ≡ c.args.local = omega (arith, ints) in
    let wide : FitsSigned w128 c.from.result = omega (arith, ints) in
    let place : IsPlaceOf shown_from c.args.transitions.now c.args.local c.count_from-count.result = rw (← from) (simp to_z-of_z at c.count_from-count.ensures) in
    let offset_fits : FitsSigned w32 c.offset_after.result = search rules in
    let m_fits : FitsSigned w128 c.moment_of.result = search rules in
    let at : c.offset_after.result ≡ offset_after c.args.first c.args.transitions.now c.count_from-count.result = simp to_z-of_z at c.offset_after.ensures in
    let is : c.moment_of.result ≡ c.args.local -ℤ c.offset_after.result = simp to_z-of_z at c.moment_of.ensures in
    rw (to_z-of_z w128 c.moment_of.result m_fits) (record {
      by = λ end. (skipped_first c.args.first c.args.transitions.now end c.args.local c.moment_of.result c.offset_after.result
          c.count_from-count.result c.args.fold c.in-First.is c.requires.order place (c.requires.skipped end) at is).0;
      offset = λ end. (skipped_first c.args.first c.args.transitions.now end c.args.local c.moment_of.result c.offset_after.result
          c.count_from-count.result c.args.fold c.in-First.is c.requires.order place (c.requires.skipped end) at is).1;
    })

pub returns-in-Second : goal.returns-in-Second
returns-in-Second c =
    let fits : FitsSigned w64 c.args.local = c.ranges.local in
    let first_fits : FitsSigned w32 c.args.first = c.ranges.first in
    let from : c.from.result ≡ c.args.local = omega (arith, ints) in
    let wide : FitsSigned w128 c.from.result = omega (arith, ints) in
    let place : IsPlaceOf shown_from c.args.transitions.now c.args.local c.count_from-count.result = rw (← from) (simp to_z-of_z at c.count_from-count.ensures) in
    let offset_fits : FitsSigned w32 c.offset_after-in-Second.result = search rules in
    let m_fits : FitsSigned w128 c.moment_of-in-Second.result = search rules in
    let at_more : c.offset_after-in-Second.result ≡ offset_after c.args.first c.args.transitions.now (c.count_from-count.result + 1) = simp to_z-of_z at c.offset_after-in-Second.ensures in
    let at = at_more ∙ ap (offset_after c.args.first c.args.transitions.now) (add-one c.count_from-count.result) in
    let is : c.moment_of-in-Second.result ≡ c.args.local -ℤ c.offset_after-in-Second.result = simp to_z-of_z at c.moment_of-in-Second.ensures in
    rw (to_z-of_z w128 c.moment_of-in-Second.result m_fits) (record {
      by = λ end. (skipped_second c.args.first c.args.transitions.now end c.args.local c.moment_of-in-Second.result c.offset_after-in-Second.result
          c.count_from-count.result c.args.fold c.in-Second.is c.requires.order place (c.requires.skipped end) at is).0;
      offset = λ end. (skipped_second c.args.first c.args.transitions.now end c.args.local c.moment_of-in-Second.result c.offset_after-in-Second.result
          c.count_from-count.result c.args.fold c.in-Second.is c.requires.order place (c.requires.skipped end) at is).1;
    })
