use Rattle.std.proofs.Common.{◌∙◌, ap, codes, length, Err}
use Rattle.std.proofs.lemmas.Result.{err_from_is_err_and}
use Rattle.tilt_feed.specs.Feed.{empty_feed}
use Rattle.tilt_live_run.proofs.Adding.{adds-failed, adds-then, adds-write}
use Rattle.tilt_live_run.proofs.line_run.LineRun.begin.Goals as goal

pub returns-in_err-write_header-clause-adds : goal.returns-in_err-write_header-clause-adds
returns-in_err-write_header-clause-adds g c = λ accepted is shown.
    let p = err_from_is_err_and c.from_residual.result c.from_residual.ensures.1 in
    adds-failed _ _ _ (codes "start,end,value\n") _ _ c.from_residual.result (p.1 ∙ ap Err p.2) c.in_err-write_header.ensures

pub returns-clause-adds : goal.returns-clause-adds
returns-clause-adds g c = λ accepted is shown.
    adds-then _ _ _ _ (codes "start,end,value\n") _ (tt {0}) c.show.result (adds-write _ _ _ _ (tt {0}) c.in_ok-write_header.ensures)
    (rw shown at (c.show.ensures.adds accepted (empty_feed (length accepted.core.inputs)) 0 is))

pub returns-clause-goes_on : goal.returns-clause-goes_on
returns-clause-goes_on g c = λ accepted is.
    c.show.ensures.goes_on accepted (empty_feed (length accepted.core.inputs)) 0 is

pub returns-clause-begun : goal.returns-clause-begun
returns-clause-begun g c = λ accepted is.
    c.show.ensures.begun accepted (empty_feed (length accepted.core.inputs)) 0 is

pub returns-clause-rows : goal.returns-clause-rows
returns-clause-rows g c = λ accepted is keeps.
    c.show.ensures.rows accepted (empty_feed (length accepted.core.inputs)) 0 is keeps
