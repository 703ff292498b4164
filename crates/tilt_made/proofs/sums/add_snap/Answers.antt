use Rattle.std.proofs.Common.{◌≡◌, ◌<◌, ◌∙◌, Some, None, FitsSigned, length, ap, sym, rules, arith}
use Rattle.std.specs.Int.{w64}
use Rattle.std.proofs.lemmas.Int.{to_z-of_z}
use Rattle.tilt_stream.specs.Snap.{Snapshot}
use Rattle.tilt_made.specs.Summary.{values}
use Rattle.tilt_made.proofs.Values.{values_few, values_none, values_some}
use Rattle.tilt_made.proofs.sums.add_snap.Goals as goal

pub add-requires : goal.add-requires
add-requires c =
    let (list, held, few) = c.requires in
    (record { few = (values list, held, omega (arith, few, values_few list)) })

pub returns-in-Some : goal.returns-in-Some
returns-in-Some c = λ list few held.
    let is : c.args.snap.now.value ≡ Some c.in-Some.value = ap (λ (s : Snapshot). s.value) (sym c.snap.view_is) ∙ c.in-Some.is in
    let within : length (values list) < 9223372036854775807 = omega (arith, few, values_few list) in
    let fits : FitsSigned w64 c.in-Some.value = search rules in
    let added = rw (to_z-of_z w64 c.in-Some.value fits) at (c.add.ensures (values list) within held) in
    rw (values_some list c.args.snap.now c.in-Some.value is) added

pub returns-in_default : goal.returns-in_default
returns-in_default c = λ list few held.
    let is : c.args.snap.now.value ≡ None = ap (λ (s : Snapshot). s.value) (sym c.snap.view_is) ∙ c.in_default.is in
    rw (values_none list c.args.snap.now is) held
