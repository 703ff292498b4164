use Rattle.std.proofs.Common.{sym, ap, ◌∙◌}
use Rattle.std.specs.List.{list_any}
use Rattle.std.specs.Str.{bytes_eq}
use Rattle.tilt_cli.specs.Options.{SettingValue, setting_of}
use Rattle.tilt_cli.specs.declared.setting.Setting.{Setting}
use Rattle.tilt_cli.proofs.Settings.{any_seen}
use Rattle.tilt_cli.proofs.arguments.Arguments.has.Goals as goal

pub returns : goal.returns
returns c =
    c.is_among.ensures ∙ ap (list_any (λ (s : Setting). bytes_eq s.word.now c.args.word.now)) c.deref.ensures.value
    ∙ sym (any_seen setting_of (λ (s : SettingValue). bytes_eq s.option c.args.word.now) c.args.self.now.settings.items)
