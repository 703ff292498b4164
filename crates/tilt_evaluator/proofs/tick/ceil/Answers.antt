use Rattle.std.proofs.Common.{arith, ◌≡◌, ap, ◌∙◌, ℤ, ◌+ℤ◌, ◌-ℤ◌, to_z, of_z}
use Rattle.std.proofs.lemmas.Int.{ints}
use Rattle.std.specs.Int.{int_rem_euclid, w128}
use Rattle.tilt_evaluator.proofs.tick.ceil.Goals as goal

pub returns-clause-value : goal.returns-clause-value
returns-clause-value c =
    let grid = c.grid.inside in
    let tick = c.args.tick in
    let behind : to_z w128 (of_z w128 (to_z w128 (of_z w128 c.from.result) -ℤ to_z w128 (of_z w128 tick))) ≡ grid.offset -ℤ tick = omega (arith, ints) in
    let period : to_z w128 (of_z w128 c.from-2.result) ≡ grid.period = omega (arith, ints) in
    let rest : c.rem_euclid.result ≡ int_rem_euclid (grid.offset -ℤ tick) grid.period =
    c.rem_euclid.ensures.value ∙ ap (λ (a : ℤ). int_rem_euclid a (to_z w128 (of_z w128 c.from-2.result))) behind ∙ ap (λ (p : ℤ). int_rem_euclid (grid.offset -ℤ tick) p) period in
    let all : to_z w128 (of_z w128 (to_z w128 (of_z w128 tick) +ℤ to_z w128 (of_z w128 c.rem_euclid.result))) ≡ tick +ℤ c.rem_euclid.result = omega (arith, ints) in
    rw (← c.grid.view_is) (all ∙ ap (λ (r : ℤ). tick +ℤ r) rest)
