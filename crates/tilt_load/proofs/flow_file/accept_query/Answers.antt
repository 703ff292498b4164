use Rattle.std.proofs.Common.{◌∙◌, sym, ap}
use Rattle.std.proofs.lemmas.Result.{err_from_is_err_and}
use Rattle.tilt_bounds.specs.Margins.{margins_of}
use Rattle.tilt_load.proofs.OneFlow.{check_known, check_memory, far_refuses}
use Rattle.tilt_load.proofs.flow_file.accept_query.Goals as goal

pub returns-in_err-core-clause-fault : goal.returns-in_err-core-clause-fault
returns-in_err-core-clause-fault c =
    λ name bytes has.
    let p = err_from_is_err_and c.from_residual-in_err-core.result c.from_residual-in_err-core.ensures.1 in
    rw (p.1, p.2) (check_memory name bytes c.args.flow.now c.in_ok-query.query c.in_err-core.field-0.0 c.requires c.in_ok-query.ensures c.in_err-core.ensures)

pub returns-in_err-accepted-clause-fault : goal.returns-in_err-accepted-clause-fault
returns-in_err-accepted-clause-fault c =
    λ name bytes has.
    let p = err_from_is_err_and c.from_residual-in_err-accepted.result c.from_residual-in_err-accepted.ensures.1 in
    let same = check_known c.args.flow.now c.in_ok-query.query c.in_ok-core.core c.in_ok-query.ensures c.in_ok-core.ensures in
    rw (p.1, p.2) (far_refuses name bytes c.args.flow.now c.in_ok-core.core c.in_err-accepted.field-0.0 has same c.in_err-accepted.ensures.refused)

pub returns-clause-core : goal.returns-clause-core
returns-clause-core c =
    c.in_ok-accepted.ensures.core ∙ check_known c.args.flow.now c.in_ok-query.query c.in_ok-core.core c.in_ok-query.ensures c.in_ok-core.ensures

pub returns-clause-margins : goal.returns-clause-margins
returns-clause-margins c =
    let same = check_known c.args.flow.now c.in_ok-query.query c.in_ok-core.core c.in_ok-query.ensures c.in_ok-core.ensures in
    ap margins_of (sym same) ∙ c.in_ok-accepted.ensures.margins
