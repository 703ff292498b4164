use Rattle.std.proofs.Common.{◌∙◌, ap, codes, refl}
use Rattle.std.specs.Str.{bytes_eq}
use Rattle.tilt_cli.specs.Options.{text_of}
use Rattle.tilt_live_cli.proofs.Settings.{neither}
use Rattle.tilt_live_cli.proofs.reading_texts.take_meanings.Goals as goal

pub returns-clause-events : goal.returns-clause-events
returns-clause-events c =
    c.remove_text-events.ensures.value
    ∙ ap text_of (c.remove_text-scale.ensures.others (codes "--events") refl)

pub returns-clause-max_age : goal.returns-clause-max_age
returns-clause-max_age c =
    c.remove_text-max_age.ensures.value
    ∙ ap text_of (c.remove_text-events.ensures.others (codes "--max-age") refl ∙ c.remove_text-scale.ensures.others (codes "--max-age") refl)

pub returns-clause-closed : goal.returns-clause-closed
returns-clause-closed c =
    c.remove_text-closed.ensures.value
    ∙ ap text_of (c.remove_text-max_age.ensures.others (codes "--closed") refl ∙ c.remove_text-events.ensures.others (codes "--closed") refl
    ∙ c.remove_text-scale.ensures.others (codes "--closed") refl)

pub returns-clause-ties : goal.returns-clause-ties
returns-clause-ties c =
    c.remove_text-ties.ensures.value
    ∙ ap text_of (c.remove_text-closed.ensures.others (codes "--ties") refl ∙ c.remove_text-max_age.ensures.others (codes "--ties") refl
    ∙ c.remove_text-events.ensures.others (codes "--ties") refl ∙ c.remove_text-scale.ensures.others (codes "--ties") refl)

pub returns-clause-others : goal.returns-clause-others
returns-clause-others c = λ other none.
    let one = neither (bytes_eq (codes "--scale") other) _ none in
    let two = neither (bytes_eq (codes "--events") other) _ one.1 in
    let three = neither (bytes_eq (codes "--max-age") other) _ two.1 in
    let four = neither (bytes_eq (codes "--closed") other) _ three.1 in
    let five = neither (bytes_eq (codes "--ties") other) _ four.1 in
    c.remove_text-ties.ensures.others other five.0 ∙ c.remove_text-closed.ensures.others other four.0
    ∙ c.remove_text-max_age.ensures.others other three.0 ∙ c.remove_text-events.ensures.others other two.0 ∙ c.remove_text-scale.ensures.others other one.0
