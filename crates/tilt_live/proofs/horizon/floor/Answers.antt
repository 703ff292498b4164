use Rattle.std.proofs.Common.{arith, ◌≡◌, ap, ◌∙◌, ℤ, ◌-ℤ◌, to_z, of_z}
use Rattle.std.proofs.lemmas.Int.{ints}
use Rattle.std.specs.Int.{int_rem_euclid, w128}
use Rattle.tilt_live.proofs.horizon.floor.Goals as goal

pub returns-clause-value : goal.returns-clause-value
returns-clause-value c =
    let grid = c.grid.inside in
    let tick = c.args.tick in
    let behind : to_z w128 (of_z w128 (to_z w128 (of_z w128 tick) -ℤ to_z w128 (of_z w128 c.from.result))) ≡ tick -ℤ grid.offset = omega (arith, ints) in
    let period : to_z w128 (of_z w128 c.from-2.result) ≡ grid.period = omega (arith, ints) in
    let rest : c.rem_euclid.result ≡ int_rem_euclid (tick -ℤ grid.offset) grid.period =
    c.rem_euclid.ensures.value ∙ ap (λ (a : ℤ). int_rem_euclid a (to_z w128 (of_z w128 c.from-2.result))) behind ∙ ap (λ (p : ℤ). int_rem_euclid (tick -ℤ grid.offset) p) period in
    rw (← c.grid.view_is) (omega (arith, ints))

pub returns-clause-near : goal.returns-clause-near
returns-clause-near c =
    let short = c.grid.invariant.period_high in
    let period : to_z w128 (of_z w128 c.from-2.result) ≡ c.grid.inside.period = omega (arith, ints) in
    let least = c.rem_euclid.ensures.lower_bound in
    let most = c.rem_euclid.ensures.upper_bound in
    omega (arith, ints)
