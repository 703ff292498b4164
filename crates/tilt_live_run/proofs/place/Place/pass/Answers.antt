use Rattle.std.proofs.Common.{refl}
use Rattle.tilt_live_run.proofs.Placing.{same-place}
use Rattle.tilt_live_run.proofs.place.Place.pass.Goals as goal

pub returns : goal.returns
returns c = same-place _ _ _ _ refl c.saturating_add.ensures
