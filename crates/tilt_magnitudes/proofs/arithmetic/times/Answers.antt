use Rattle.std.proofs.Common.{◌≡◌, ◌*ℤ◌, to_z, of_z, arith}
use Rattle.std.specs.Int.{w128}
use Rattle.std.proofs.lemmas.Int.{ints, to_z-of_z}
use Rattle.tilt_magnitudes.proofs.Computed.{product_fits}
use Rattle.tilt_magnitudes.proofs.arithmetic.times.Goals as goal

pub returns : goal.returns
returns c =
    let a : to_z w128 (of_z w128 c.args.m) ≡ c.args.m = omega (arith, ints) in
    let b : to_z w128 (of_z w128 c.from.result) ≡ c.args.n = omega (arith, ints) in
    rw (a, b) (to_z-of_z w128 (c.args.m *ℤ c.args.n) (product_fits c.args.m c.args.n c.requires.low c.requires.high c.ranges.n))
