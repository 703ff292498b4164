use Rattle.std.proofs.Common.{◌∙◌}
use Rattle.std.proofs.lemmas.Result.{err_from_is_err_and, IfErr-weaker, IfOk-weaker}
use Rattle.tilt_report.specs.Report.{report_of}
use Rattle.tilt_unit_load.proofs.Reported.{file_fault, read_fault}
use Rattle.tilt_unit_load.specs.UnitReport.{unit_report}
use Rattle.tilt_unit_load.proofs.unit_file.load_in_units.Goals as goal

pub returns-in_err-bytes-clause-fault : goal.returns-in_err-bytes-clause-fault
returns-in_err-bytes-clause-fault g c =
    let p = err_from_is_err_and c.from_residual.result c.from_residual.ensures.1 in
    let name = c.args.name.now in
    rw (p.1, p.2) (read_fault g.S.Shelf.tells name (g.S.Shelf.files c.args.shelf.now name) c.args.scales.now (g.S.Shelf.read_faults c.args.shelf.now)
    (g.S.Shelf.read_faults c.load.new.shelf) (report_of c.in_err-bytes.field-0.0) c.in_err-bytes.ensures.fault)

pub returns-clause-fault : goal.returns-clause-fault
returns-clause-fault g c =
    let name = c.args.name.now in
    let file = g.S.Shelf.files c.args.shelf.now name in
    let bytes = c.deref.result.now in
    IfErr-weaker c.accept_in_units.result _ _ (λ why is. file_fault g.S.Shelf.tells name file bytes c.args.scales.now (g.S.Shelf.read_faults c.args.shelf.now)
    (g.S.Shelf.read_faults c.load.new.shelf) (λ t. c.deref.ensures.value ∙ c.in_ok-bytes.ensures.whole t) (unit_report why) is)
    (c.accept_in_units.ensures.fault name)

pub returns-clause-given : goal.returns-clause-given
returns-clause-given g c =
    λ t. IfOk-weaker c.accept_in_units.result _ _ (λ loaded _. rw (c.in_ok-bytes.ensures.whole t) at c.in_ok-bytes.ensures.given)
    c.accept_in_units.ensures.valid
