use Rattle.std.proofs.Common.{◌∙◌, ap, codes, refl}
use Rattle.std.specs.Str.{bytes_eq}
use Rattle.tilt_cli.specs.Options.{text_of}
use Rattle.tilt_live_cli.proofs.Settings.{neither}
use Rattle.tilt_live_cli.proofs.reading_texts.take_marks.Goals as goal

pub returns-clause-delimiter : goal.returns-clause-delimiter
returns-clause-delimiter c =
    c.remove_text-delimiter.ensures.value
    ∙ ap text_of (c.remove_text-null.ensures.others (codes "--delimiter") refl)

pub returns-clause-decimal : goal.returns-clause-decimal
returns-clause-decimal c =
    c.remove_text-decimal.ensures.value
    ∙ ap text_of (c.remove_text-delimiter.ensures.others (codes "--decimal") refl ∙ c.remove_text-null.ensures.others (codes "--decimal") refl)

pub returns-clause-others : goal.returns-clause-others
returns-clause-others c = λ other none.
    let one = neither (bytes_eq (codes "--null") other) _ none in
    let two = neither (bytes_eq (codes "--delimiter") other) _ one.1 in
    let three = neither (bytes_eq (codes "--decimal") other) _ two.1 in
    c.remove_text-decimal.ensures.others other three.0 ∙ c.remove_text-delimiter.ensures.others other two.0
    ∙ c.remove_text-null.ensures.others other one.0
