use Rattle.std.proofs.Common.{◌∙◌, ap, codes, refl}
use Rattle.std.specs.Str.{bytes_eq}
use Rattle.tilt_cli.specs.Options.{text_of}
use Rattle.tilt_live_cli.proofs.Settings.{neither}
use Rattle.tilt_live_cli.proofs.reading_texts.take_moments.Goals as goal

pub returns-clause-origin : goal.returns-clause-origin
returns-clause-origin c =
    c.remove_text-origin.ensures.value
    ∙ ap text_of (c.remove_text-tick.ensures.others (codes "--origin") refl)

pub returns-clause-unit : goal.returns-clause-unit
returns-clause-unit c =
    c.remove_text-unit.ensures.value
    ∙ ap text_of (c.remove_text-origin.ensures.others (codes "--unit") refl ∙ c.remove_text-tick.ensures.others (codes "--unit") refl)

pub returns-clause-zone : goal.returns-clause-zone
returns-clause-zone c =
    c.remove_text-zone.ensures.value
    ∙ ap text_of (c.remove_text-unit.ensures.others (codes "--zone") refl ∙ c.remove_text-origin.ensures.others (codes "--zone") refl
    ∙ c.remove_text-tick.ensures.others (codes "--zone") refl)

pub returns-clause-fold : goal.returns-clause-fold
returns-clause-fold c =
    c.remove_text-fold.ensures.value
    ∙ ap text_of (c.remove_text-zone.ensures.others (codes "--fold") refl ∙ c.remove_text-unit.ensures.others (codes "--fold") refl
    ∙ c.remove_text-origin.ensures.others (codes "--fold") refl ∙ c.remove_text-tick.ensures.others (codes "--fold") refl)

pub returns-clause-others : goal.returns-clause-others
returns-clause-others c = λ other none.
    let one = neither (bytes_eq (codes "--tick") other) _ none in
    let two = neither (bytes_eq (codes "--origin") other) _ one.1 in
    let three = neither (bytes_eq (codes "--unit") other) _ two.1 in
    let four = neither (bytes_eq (codes "--zone") other) _ three.1 in
    let five = neither (bytes_eq (codes "--fold") other) _ four.1 in
    c.remove_text-fold.ensures.others other five.0 ∙ c.remove_text-zone.ensures.others other four.0
    ∙ c.remove_text-unit.ensures.others other three.0 ∙ c.remove_text-origin.ensures.others other two.0
    ∙ c.remove_text-tick.ensures.others other one.0
