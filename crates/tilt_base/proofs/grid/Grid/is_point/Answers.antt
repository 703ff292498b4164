use Rattle.std.proofs.Common.{arith, rules, ◌≡◌, ap, ◌∙◌, ℤ, pos, ◌-ℤ◌, to_z, of_z}
use Rattle.std.proofs.lemmas.Int.{ints}
use Rattle.std.specs.Int.{int_rem_euclid, w128}
use Rattle.std.specs.Ordering.{int_eq}
use Rattle.tilt_base.proofs.Bits.{int_eq-bits}
use Rattle.tilt_base.proofs.grid.Grid.is_point.Goals as goal

pub returns : goal.returns
returns c =
    let grid = c.self.inside in
    let tick = c.args.tick in
    let behind : to_z w128 (of_z w128 (to_z w128 (of_z w128 tick) -ℤ to_z w128 (of_z w128 c.from.result))) ≡ tick -ℤ grid.offset = omega (arith, ints) in
    let period : to_z w128 (of_z w128 c.from-2.result) ≡ grid.period = omega (arith, ints) in
    let rest : c.rem_euclid.result ≡ int_rem_euclid (tick -ℤ grid.offset) grid.period =
    c.rem_euclid.ensures.value ∙ ap (λ (a : ℤ). int_rem_euclid a (to_z w128 (of_z w128 c.from-2.result))) behind ∙ ap (λ (p : ℤ). int_rem_euclid (tick -ℤ grid.offset) p) period in
    rw (← c.self.view_is) (int_eq-bits w128 c.rem_euclid.result (pos 0) (search rules) (search rules) ∙ ap (λ (r : ℤ). int_eq r (pos 0)) rest)
