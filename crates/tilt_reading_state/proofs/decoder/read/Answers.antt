use Rattle.std.proofs.Common.{◌∙◌, ◌<◌, ◌^◌, List, ℕ, length, ap, arith}
use Rattle.tilt_reading_state.proofs.Decoding.{only_kept, ranged}
use Rattle.tilt_reading_state.proofs.decoder.read.Goals as goal

pub returns-clause-range : goal.returns-clause-range
returns-clause-range c = ranged c.read_kept.result c.new-reader.result c.read_kept.new.reader c.read_kept.ensures

pub returns-clause-only : goal.returns-clause-only
returns-clause-only c =
    λ kept rest is e.
    let few : length c.args.text.now < 2 ^ 63 = omega arith in
    let small : length c.new-reader.result < 2 ^ 63 = omega (arith, few, ap (λ (t : List ℕ). length t) c.new-reader.ensures) in
    only_kept c.read_kept.result c.new-reader.result c.read_kept.new.reader c.read_kept.ensures small kept rest is (c.new-reader.ensures ∙ e)
