use Rattle.std.proofs.Common.{◌≤◌, ◌<◌, ◌*◌, ◌^◌, arith}
use Rattle.std.proofs.lemmas.Nat.{div_below}
use Rattle.tilt_readings.proofs.ScaleLemmas.{ten_pos, ten_low}
use Rattle.tilt_readings.proofs.written.write_decimal.Goals as goal

pub nonzero_div-size : goal.nonzero_div-size
nonzero_div-size c = omega (arith, ten_pos c.from.result, c.pow.ensures)

pub overflow_cast-size : goal.overflow_cast-size
overflow_cast-size c =
    let some : 0 < c.pow.result = omega (arith, ten_pos c.from.result, c.pow.ensures) in
    let ten : 10 ≤ c.pow.result = omega (arith, ten_low c.from.result (omega (arith, c.from.ensures)), c.pow.ensures) in
    let small : c.unsigned_abs-size.result < 2 ^ 63 * c.pow.result = omega (arith, c.unsigned_abs-size.ensures.bound) in
    record { sfits = div_below c.unsigned_abs-size.result c.pow.result (2 ^ 63) some small }
