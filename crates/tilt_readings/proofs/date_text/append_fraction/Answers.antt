use Rattle.std.proofs.Common.{arith}
use Rattle.tilt_readings.proofs.ScaleLemmas.{ten_pos}
use Rattle.tilt_readings.proofs.date_text.append_fraction.Goals as goal

pub nonzero_div-nanoseconds : goal.nonzero_div-nanoseconds
nonzero_div-nanoseconds c = omega (arith, ten_pos c.from.result, c.pow.ensures)
