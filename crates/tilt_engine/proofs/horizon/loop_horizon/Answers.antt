use Rattle.std.proofs.Common.{FitsSigned, to_z-of_z, w64, ◌≡◌, rules}
use Rattle.std.specs.Int.{int_max}
use Rattle.tilt_code.specs.Grammar.{IsStretch}
use Rattle.tilt_engine.proofs.BufferHorizons.{clipped-time, not-le}
use Rattle.tilt_engine.proofs.horizon.loop_horizon.Goals as goal

pub returns-else-each-point-clause-time : goal.returns-else-each-point-clause-time
returns-else-each-point-clause-time c =
    let lo = c.each.inside.lo in
    let hi = c.each.inside.hi in
    let point = c.floor-point.result in
    let stretch : IsStretch lo hi = rw (← c.each.view_is) at c.requires.ready.1.stretch in
    let low = stretch.low in
    let some = stretch.some_ticks in
    let high = stretch.high in
    let lo_fits : FitsSigned w64 lo = search rules in
    let hi_fits : FitsSigned w64 hi = search rules in
    let point_fits : FitsSigned w64 point = search rules in
    let max_fits : FitsSigned w64 c.max.result = search rules in
    let below = not-le hi point (rw (to_z-of_z hi_fits, to_z-of_z point_fits) at c.if-each-point.false) in
    let is : c.max.result ≡ int_max lo point = rw (to_z-of_z lo_fits, to_z-of_z point_fits) at c.max.ensures.value in
    rw (to_z-of_z max_fits, is) (clipped-time lo hi point stretch below)
