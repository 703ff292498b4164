use Rattle.std.proofs.Common.{◌^◌, ◌<◌, ◌≤◌, arith, rules}
use Rattle.std.proofs.Math.Nat.{pow-le-pow_right}
use Rattle.tilt_unit_load.proofs.Powers.{none_at_all}
use Rattle.tilt_unit_load.proofs.decimals.decimals_of.Goals as goal

pub overflow_mul-power : goal.overflow_mul-power
overflow_mul-power c =
    let below : c.loop-decimals.decimals < 19 = search rules in
    let few : c.loop-decimals.decimals ≤ 18 = omega (arith, below) in
    let most : 10 ^ c.loop-decimals.decimals ≤ 10 ^ 18 = pow-le-pow_right (omega arith) few in
    record { fits = omega (arith, most, c.loop-decimals.invariant.power) }

pub returns-clause-power : goal.returns-clause-power
returns-clause-power c =
    let far : 19 ≤ c.loop-decimals.decimals = search rules in
    none_at_all c.args.scale c.requires (λ decimals h. c.loop-decimals.invariant.none decimals (omega (arith, h, far)))
