use Rattle.std.proofs.Common.{sym, ap, ◌∙◌}
use Rattle.std.specs.List.{position}
use Rattle.std.specs.Str.{bytes_eq}
use Rattle.tilt_cli.specs.Options.{ticks_of}
use Rattle.tilt_cli.specs.declared.setting.Setting.{Setting}
use Rattle.tilt_cli.proofs.Settings.{not_set, set_at}
use Rattle.tilt_cli.proofs.arguments.Arguments.ticks_of.Goals as goal

pub returns-in_err-place : goal.returns-in_err-place
returns-in_err-place c =
    let place = sym (ap (position (λ (s : Setting). bytes_eq s.word.now c.args.word.now)) c.deref.ensures.value) ∙ sym c.in_err-place.ensures.first in
    c.from_residual.ensures ∙ sym (ap ticks_of (not_set c.args.word.now c.args.self.now.settings.items place))

pub returns : goal.returns
returns c =
    let place = sym (ap (position (λ (s : Setting). bytes_eq s.word.now c.args.word.now)) c.deref.ensures.value) ∙ sym c.in_ok-place.ensures.first in
    c.ticks.ensures ∙ sym (ap ticks_of (set_at c.args.word.now c.args.self.now.settings.items c.in_ok-place.place c.index.result.now place c.index.ensures))
