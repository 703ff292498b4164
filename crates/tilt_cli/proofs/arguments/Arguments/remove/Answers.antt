use Rattle.std.proofs.Common.{sym, ap, ◌∙◌}
use Rattle.std.specs.List.{position}
use Rattle.std.specs.Str.{bytes_eq}
use Rattle.tilt_cli.specs.declared.setting.Setting.{Setting}
use Rattle.tilt_cli.proofs.Settings.{not_set, set_at, others_left}
use Rattle.tilt_cli.proofs.arguments.Arguments.remove.Goals as goal

pub returns-in_err-place-clause-value : goal.returns-in_err-place-clause-value
returns-in_err-place-clause-value c =
    let place = sym (ap (position (λ (s : Setting). bytes_eq s.word.now c.args.word.now)) c.deref.ensures.value) ∙ sym c.in_err-place.ensures.first in
    rw c.from_residual.ensures (sym (not_set c.args.word.now c.args.self.now.settings.items place))

pub returns-clause-value : goal.returns-clause-value
returns-clause-value c =
    let place = sym (ap (position (λ (s : Setting). bytes_eq s.word.now c.args.word.now)) c.deref.ensures.value) ∙ sym c.in_ok-place.ensures.first in
    sym (set_at c.args.word.now c.args.self.now.settings.items c.in_ok-place.place c.remove.result place c.remove.ensures.value)

pub returns-clause-others : goal.returns-clause-others
returns-clause-others c =
    let place = sym (ap (position (λ (s : Setting). bytes_eq s.word.now c.args.word.now)) c.deref.ensures.value) ∙ sym c.in_ok-place.ensures.first in
    rw c.remove.ensures.items (others_left c.args.word.now c.args.self.now.settings.items c.in_ok-place.place c.remove.result place)
