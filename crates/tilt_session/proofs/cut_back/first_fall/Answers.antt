use Rattle.std.proofs.Common.{◌∙◌, List, length, sym, ap, w64, FitsSigned, rules}
use Rattle.std.specs.Prelude.{◌==◌}
use Rattle.std.proofs.lemmas.Int.{to_z-of_z}
use Rattle.tilt_checkpoint.specs.Checkpoint.{KeptParts}
use Rattle.tilt_session.proofs.Falls.{none-there, some-there, told-input, told-least}
use Rattle.tilt_session.proofs.cut_back.first_fall.Goals as goal

pub returns-then-is_empty-clause-fall : goal.returns-then-is_empty-clause-fall
returns-then-is_empty-clause-fall c =
    let old_fits : FitsSigned w64 c.cut.result = search rules in
    let cut_fits : FitsSigned w64 c.least.result = search rules in
    told-least c.args.checkpoint.now c.args.cuts.now _ _ c.fall.result
    (none-there c.args.checkpoint.now.series (sym (c.if-is_empty.ensures ∙ ap (λ (ks : List KeptParts). length ks == 0) c.series-series.ensures.value)))
    (to_z-of_z w64 c.cut.result old_fits ∙ c.cut.ensures.value) (to_z-of_z w64 c.least.result cut_fits ∙ c.least.ensures.value) c.fall.ensures

pub returns-else-is_empty-clause-fall : goal.returns-else-is_empty-clause-fall
returns-else-is_empty-clause-fall c =
    told-input c.args.checkpoint.now c.args.cuts.now c.series-series.result.now c.each.result.now c.input_fall.result c.series-series.ensures.value
    c.each.ensures.value
    (some-there c.args.checkpoint.now.series (sym (c.if-is_empty.ensures ∙ ap (λ (ks : List KeptParts). length ks == 0) c.series-series.ensures.value)))
    c.input_fall.ensures
