use Rattle.std.proofs.Common.{◌∙◌, ap, codes, refl}
use Rattle.std.specs.Str.{bytes_eq}
use Rattle.tilt_cli.specs.Options.{text_of}
use Rattle.tilt_live_cli.proofs.Settings.{neither}
use Rattle.tilt_live_cli.proofs.reading_texts.take_columns.Goals as goal

pub returns-clause-value : goal.returns-clause-value
returns-clause-value c =
    c.remove_text-value.ensures.value
    ∙ ap text_of (c.remove_text-name.ensures.others (codes "--value") refl)

pub returns-clause-others : goal.returns-clause-others
returns-clause-others c = λ other none.
    let one = neither (bytes_eq (codes "--name") other) _ none in
    let two = neither (bytes_eq (codes "--value") other) _ one.1 in
    c.remove_text-value.ensures.others other two.0 ∙ c.remove_text-name.ensures.others other one.0
