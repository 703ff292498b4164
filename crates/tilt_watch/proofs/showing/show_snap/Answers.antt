use Rattle.std.proofs.Common.{◌≡◌, ◌∙◌, false, sym}
use Rattle.std.specs.Prelude.{is_some}
use Rattle.tilt_watch.proofs.PlacesAfter.{left-none, places-none}
use Rattle.tilt_watch.proofs.showing.show_snap.Goals as goal

pub returns-else-is_some-clause-places : goal.returns-else-is_some-clause-places
returns-else-is_some-clause-places g c =
    let none : is_some c.snap.inside.value ≡ false = sym c.is_some.ensures ∙ c.if-is_some.false in
    rw (← c.snap.view_is, none) (sym (places-none _ _ c.requires))

pub returns-else-is_some-clause-list : goal.returns-else-is_some-clause-list
returns-else-is_some-clause-list g c =
    let none : is_some c.snap.inside.value ≡ false = sym c.is_some.ensures ∙ c.if-is_some.false in
    rw (← c.snap.view_is, none) (sym (left-none _))
