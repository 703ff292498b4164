use Rattle.std.proofs.Common.{arith}
use Rattle.std.proofs.lemmas.Int.{ints}
use Rattle.tilt_reading_lines.specs.LineFields.{fields_in}
use Rattle.tilt_reading_lines.proofs.Each.{all_read, one_bad, one_more}
use Rattle.tilt_reading_lines.proofs.fields.read_each.Goals as goal

pub returns-in-Err : goal.returns-in-Err
returns-in-Err c =
    one_bad c.args.rules.now (fields_in c.args.fields.now) c.args.sources.now c.args.places.now c.args.tick _ _ c.loop-input.input
    c.index-sources-input.result c.at-text.result.now c.loop-input.readings.items _ c.in-Err.fault
    (omega (arith, ints)) (omega (arith, ints)) (omega arith) (omega arith) c.index-sources-input.is c.at-text.ensures
    c.loop-input.invariant c.in-Err.ensures

pub loop-input-preserved : goal.loop-input-preserved
loop-input-preserved c =
    one_more c.args.rules.now (fields_in c.args.fields.now) c.args.sources.now c.args.places.now c.args.tick _ _ _ c.loop-input.input
    c.index-sources-input.result c.at-text.result.now c.loop-input.readings.items _
    (omega (arith, ints)) (omega (arith, ints)) (omega (arith, ints)) (omega arith) (omega arith) c.index-sources-input.is
    c.at-text.ensures c.loop-input.invariant c.in-Ok.ensures

pub returns : goal.returns
returns c =
    all_read c.args.rules.now (fields_in c.args.fields.now) c.args.sources.now c.args.places.now c.args.tick _ c.loop-input.input
    c.loop-input.readings.items (omega (arith, ints)) (omega arith) c.loop-input.invariant
