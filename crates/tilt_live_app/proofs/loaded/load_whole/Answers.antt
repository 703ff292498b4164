use Rattle.std.proofs.Common.{sym}
use Rattle.tilt_live_app.proofs.Living.{accepted-query}
use Rattle.tilt_types.proofs.CheckedCore.{checked-core}
use Rattle.tilt_live_app.proofs.loaded.load_whole.Goals as goal

pub returns-clause-accepted : goal.returns-clause-accepted
returns-clause-accepted g c =
    let loaded = c.in_ok-loaded.loaded in
    let accepted = c.in_ok-loaded.ensures.accepted in (
      accepted-query loaded.query loaded.accepted c.in_ok-loaded.ensures.valid accepted c.core-core.ensures.kept,
      sym (checked-core loaded.query loaded.accepted.core accepted),
    )
