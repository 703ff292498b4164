use Rattle.std.proofs.Common.{◌≡◌, pos, ◌*ℤ◌, to_z, of_z, arith}
use Rattle.std.proofs.lemmas.Int.{ints}
use Rattle.std.specs.Int.{w128}
use Rattle.tilt_readings.proofs.TickLemmas.{multiple_bounds}
use Rattle.tilt_readings.proofs.tick.moment_at.Goals as goal

pub returns : goal.returns
returns c =
    let tick : to_z w128 (of_z w128 c.from.result) ≡ c.args.tick = omega (arith, ints) in
    let length : to_z w128 (of_z w128 c.from-2.result) ≡ pos c.args.clock.length = omega (arith, ints) in
    let product : to_z w128 (of_z w128 c.from.result) *ℤ to_z w128 (of_z w128 c.from-2.result) ≡ c.args.tick *ℤ pos c.args.clock.length = λ i. tick i *ℤ length i in
    let bounds = multiple_bounds c.args.tick c.args.clock.length c.requires.tick_low c.requires.tick_high (omega arith) in
    let low = bounds.0 in
    let high = bounds.1 in
    omega (arith, ints)
