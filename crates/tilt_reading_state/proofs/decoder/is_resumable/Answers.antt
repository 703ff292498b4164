use Rattle.std.proofs.Common.{rules, ◌≡◌, ◌∙◌, List, sym, ap}
use Rattle.std.specs.List.{list_all}
use Rattle.tilt_conventions.specs.Resumable.{fits}
use Rattle.tilt_conventions.specs.Steps.{Kept}
use Rattle.tilt_reading_state.proofs.Decoding.{all_fit, fit_all}
use Rattle.tilt_reading_state.proofs.decoder.is_resumable.Goals as goal

pub returns : goal.returns
returns c =
    let inputs = c.args.kept.now.readings.inputs in
    let same : c.deref.result.now ≡ inputs = search rules in
    let is = c.all_fit.ensures ∙ ap (λ (xs : List Kept). list_all fits xs) same in
    (λ h. all_fit inputs (sym is ∙ h), λ h. is ∙ fit_all inputs h)
