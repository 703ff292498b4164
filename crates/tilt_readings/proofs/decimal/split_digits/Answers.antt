use Rattle.std.proofs.Common.{ap, sym, ◌∙◌}
use Rattle.tilt_readings.specs.Decimal.{joined}
use Rattle.tilt_readings.proofs.ScaleLemmas.{joined_other}
use Rattle.tilt_readings.proofs.decimal.split_digits.Goals as goal

pub returns-else-are_halves : goal.returns-else-are_halves
returns-else-are_halves c = ap joined c.halve.ensures ∙ joined_other c.halve.result.0.now c.halve.result.1.now (sym c.are_halves.ensures ∙ c.if-are_halves.false)
