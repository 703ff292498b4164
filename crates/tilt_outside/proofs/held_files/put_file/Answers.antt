use Rattle.std.proofs.Common.{sym}
use Rattle.tilt_outside.proofs.HeldFiles.{HoldsInstead-set, HoldsInstead-push}
use Rattle.tilt_outside.proofs.held_files.put_file.Goals as goal

pub returns-in-Some-clause-held : goal.returns-in-Some-clause-held
returns-in-Some-clause-held c =
    let place = rw c.deref.ensures.value at c.in-Some.ensures in
    HoldsInstead-set _ _ _ _ c.requires (sym place)

pub returns-in_ok-push-in-None-clause-held : goal.returns-in_ok-push-in-None-clause-held
returns-in_ok-push-in-None-clause-held c =
    let no_place = rw c.deref.ensures.value at c.in-None.ensures in
    rw c.in_ok-push-in-None.ensures.items (HoldsInstead-push _ _ _ c.requires (sym no_place))
