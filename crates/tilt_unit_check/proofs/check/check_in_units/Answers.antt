use Rattle.tilt_unit_check.proofs.Unknown.{loaded-unchecked}
use Rattle.tilt_unit_check.proofs.check.check_in_units.Goals as goal

pub returns-clause-fault : goal.returns-clause-fault
returns-clause-fault g c =
    loaded-unchecked c.args.scales.now c.args.bounds.now g.S.Shelf.tells c.args.name.now (g.S.Shelf.files c.args.shelf.now c.args.name.now)
    _ _ c.in_ok-loaded.loaded.query c.in_ok-loaded.loaded.accepted.core c.in_ok-loaded.loaded.decimals c.in_ok-loaded.ensures.loaded c.check_core.result
    (rw c.core-core.ensures.value at c.check_core.ensures.fault)
