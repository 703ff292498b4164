use Rattle.std.proofs.Common.{ap, ◌∙◌}
use Rattle.std.specs.Str.{all_ascii_digits}
use Rattle.tilt_readings.proofs.DateLemmas.{fraction_digits, nanoseconds_none, nanoseconds_some}
use Rattle.tilt_readings.proofs.date.nanoseconds_of.Goals as goal

pub carry_of-requires : goal.carry_of-requires
carry_of-requires c = ap all_ascii_digits c.after_mark.ensures ∙ fraction_digits c.args.fraction.now c.requires

pub returns-in_err-nanoseconds : goal.returns-in_err-nanoseconds
returns-in_err-nanoseconds c = rw c.from_residual.ensures (nanoseconds_none c.args.fraction.now c.after_mark.result.now c.after_mark.ensures c.in_err-nanoseconds.ensures)

pub returns : goal.returns
returns c = (nanoseconds_some c.args.fraction.now c.after_mark.result.now c.in_ok-nanoseconds.nanoseconds c.after_mark.ensures c.in_ok-nanoseconds.ensures.0, c.in_ok-nanoseconds.ensures.1)
