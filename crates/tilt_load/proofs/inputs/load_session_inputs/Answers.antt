use Rattle.std.proofs.Common.{◌≡◌, Err}
use Rattle.std.proofs.lemmas.Result.{err_from_is_err_and, IfErr-weaker, IfOk-weaker}
use Rattle.tilt_load.specs.Load.{HasSessionTurn}
use Rattle.tilt_load.specs.SeriesFiles.{RefusesSession, bounds_in, by_series, inputs_read}
use Rattle.tilt_load.proofs.Loads.{load_fault_weaker, names_refuse}
use Rattle.tilt_report.specs.Report.{report_of}
use Rattle.tilt_cli.specs.Binding.{bindings_of}
use Rattle.tilt_load.proofs.inputs.load_session_inputs.Goals as goal

pub returns-in_err-check_names-clause-fault : goal.returns-in_err-check_names-clause-fault
returns-in_err-check_names-clause-fault g c =
    let p = err_from_is_err_and c.from_residual.result c.from_residual.ensures.1 in
    rw (p.1, p.2) (names_refuse g.S.Shelf.tells (g.S.Shelf.files c.args.shelf.now) (bindings_of c.args.binds.now) (bounds_in c.args.bounds.now)
    c.args.inputs.now _ _ _ (report_of c.in_err-check_names.field-0.0) c.in_err-check_names.ensures)

pub returns-clause-fault : goal.returns-clause-fault
returns-clause-fault g c =
    let tells = g.S.Shelf.tells in
    let files = g.S.Shelf.files c.args.shelf.now in
    let binds = bindings_of c.args.binds.now in
    let bounds = bounds_in c.args.bounds.now in
    let inputs = c.args.inputs.now in
    let turn = HasSessionTurn tells files binds bounds inputs in
    IfErr-weaker c.read_inputs.result _ _ (λ fault is. load_fault_weaker tells tells (λ why. inputs_read files binds bounds inputs ≡ Err why)
    (RefusesSession files binds bounds inputs) turn turn _ _ _ _
    (λ t. t) (λ why t refused. by_series why c.in_ok-check_names.ensures refused) (λ name rose next. (rose, next)) (report_of fault) is) c.read_inputs.ensures.fault

pub returns-clause-taken : goal.returns-clause-taken
returns-clause-taken g c =
    λ told. IfOk-weaker c.read_inputs.result _ _ (λ rows read. record { names = c.in_ok-check_names.ensures; read = read }) (c.read_inputs.ensures.taken told)
