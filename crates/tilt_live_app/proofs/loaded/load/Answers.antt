use Rattle.std.proofs.Common.{◌∙◌}
use Rattle.std.proofs.lemmas.Result.{err_from_is_err_and}
use Rattle.tilt_live_app.proofs.Living.{load-unbegun, units-unbegun}
use Rattle.tilt_report.specs.Report.{report_of}
use Rattle.tilt_unit_load.specs.UnitReport.{unit_report}
use Rattle.tilt_live_app.proofs.loaded.load.Goals as goal

pub returns-in_err-loaded-clause-fault : goal.returns-in_err-loaded-clause-fault
returns-in_err-loaded-clause-fault g c =
    λ command query units.
    let p = err_from_is_err_and c.from_residual.result c.from_residual.ensures.1 in
    rw (p.1, p.2) (load-unbegun g.S.Shelf.tells g.S.Shelf.files g.S.Shelf.read_faults g.S.Shelf.save_faults g.S.Shelf.takes
    command c.args.shelf.now c.load_whole.new.shelf (report_of c.in_err-loaded.field-0.0) (units ∙ c.in_default.is) (rw query c.in_err-loaded.ensures.fault))

pub returns-in_err-loaded-2-clause-fault : goal.returns-in_err-loaded-2-clause-fault
returns-in_err-loaded-2-clause-fault g c =
    λ command query units.
    let p = err_from_is_err_and c.from_residual-in_err-loaded-2.result c.from_residual-in_err-loaded-2.ensures.1 in
    rw (p.1, p.2) (units-unbegun g.S.Shelf.tells g.S.Shelf.files g.S.Shelf.read_faults g.S.Shelf.save_faults g.S.Shelf.takes
    command c.args.shelf.now c.load_scaled.new.shelf c.in-Some.scales (unit_report c.in_err-loaded-2.field-0.0) (units ∙ c.in-Some.is)
    (rw query c.in_err-loaded-2.ensures.fault))
