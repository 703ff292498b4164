use Rattle.std.proofs.Common.{◌∙◌, [], Some, ap, sym}
use Rattle.tilt_load.specs.InputCuts.{by_names}
use Rattle.tilt_load.proofs.InputNames.{name_at}
use Rattle.tilt_load.proofs.cuts.check_names.Goals as goal

pub returns-in_ok-name-in-Some-Given : goal.returns-in_ok-name-in-Some-Given
returns-in_ok-name-in-Some-Given c =
    let told = rw c.in-Some-Given.field-0-is at c.in-Some-Given.ensures.told in
    λ t. by_names c.in_ok-name-in-Some-Given.name (told ∙ ap Some (sym c.in_ok-name-in-Some-Given.ensures))

pub returns-in_ok-name-in-Some-Input : goal.returns-in_ok-name-in-Some-Input
returns-in_ok-name-in-Some-Input c =
    let told = rw c.in-Some-Input.field-0-is at c.in-Some-Input.ensures.told in
    let low = c.in-Some-Input.ensures.place c.in-Some-Input.place (ap Some c.in-Some-Input.field-0-is) in
    let item = name_at c.args.inputs.now c.in-Some-Input.place [] c.index-inputs-place.result low c.index-inputs-place.is in
    λ t. by_names c.in_ok-name-in-Some-Input.name (told ∙ ap Some (item ∙ sym c.in_ok-name-in-Some-Input.ensures))
