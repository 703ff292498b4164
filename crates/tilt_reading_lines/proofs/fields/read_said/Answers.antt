use Rattle.std.proofs.Common.{◌≡◌, length, arith, rules, to_z, of_z, FitsSigned}
use Rattle.std.proofs.lemmas.Int.{to_z-of_z}
use Rattle.std.specs.Int.{w64}
use Rattle.tilt_reading_lines.specs.LineFields.{fields_in}
use Rattle.tilt_reading_lines.specs.Rules.{layout_of}
use Rattle.tilt_reading_lines.proofs.Said.{values_given}
use Rattle.tilt_reading_lines.proofs.fields.read_said.Goals as goal

pub returns : goal.returns
returns c =
    let count : length (fields_in c.args.fields.now) ≡ (layout_of c.args.columns.now).count = grind arith in
    let fits : FitsSigned w64 c.in_ok-tick.tick = search rules in
    values_given (layout_of c.args.columns.now) c.args.rules.now c.args.sources.now (fields_in c.args.fields.now) c.in_ok-tick.tick
    (to_z w64 (of_z w64 c.in_ok-tick.tick))
    c.at.result.now c.read_values.result c.read_values.new.readings.items count c.at.ensures c.in_ok-tick.ensures.said
    (to_z-of_z w64 c.in_ok-tick.tick fits) c.read_values.ensures
