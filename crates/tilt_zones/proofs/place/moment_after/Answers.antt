use Rattle.std.proofs.Common.{◌≡◌, FitsSigned, w32, w64, rules, arith}
use Rattle.std.proofs.lemmas.Int.{ints, to_z-of_z}
use Rattle.tilt_zones.specs.Order.{offset_after, transition_at}
use Rattle.tilt_zones.proofs.place.moment_after.Goals.{else-count-transitions-via-then-count-transitions+else-moment-from}
use Rattle.tilt_zones.proofs.place.moment_after.Goals.{else-count-transitions-via-else-count-transitions}
use Rattle.tilt_zones.proofs.place.moment_after.Goals as goal

pub returns-then-moment-from : goal.returns-then-moment-from
returns-then-moment-from c = λ next.
    let before = next c.if-count-transitions.true in
    let fits : FitsSigned w64 c.args.local = c.ranges.local in
    let first_fits : FitsSigned w32 c.args.first = c.ranges.first in
    let offset_fits : FitsSigned w32 c.offset_after.result = search rules in
    let moment_fits : FitsSigned w64 (transition_at c.args.transitions.now c.args.count).moment = search rules in
    let offset : c.offset_after.result ≡ offset_after c.args.first c.args.transitions.now c.args.count = simp to_z-of_z at c.offset_after.ensures in
    grind (arith, ints)

pub returns : goal.returns
returns c =
    let fits : FitsSigned w64 c.args.local = c.ranges.local in
    let first_fits : FitsSigned w32 c.args.first = c.ranges.first in
    let offset_fits : FitsSigned w32 c.offset_after.result = search rules in
    let offset : c.offset_after.result ≡ offset_after c.args.first c.args.transitions.now c.args.count = simp to_z-of_z at c.offset_after.ensures in (
      elim c.else-count-transitions.branch [
        | else-count-transitions-via-then-count-transitions+else-moment-from w ↦ λ inside.
            let moment_fits : FitsSigned w64 (transition_at c.args.transitions.now c.args.count).moment = search rules in
            grind (arith, ints)
        | else-count-transitions-via-else-count-transitions w ↦ λ inside. absurd (omega arith)
      ],
      omega (arith, ints),
    )
