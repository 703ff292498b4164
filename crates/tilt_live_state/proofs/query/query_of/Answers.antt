use Rattle.std.proofs.Common.{◌∙◌, ap}
use Rattle.std.proofs.lemmas.Result.{err_from_is_err_and}
use Rattle.tilt_live_state.specs.Faults.{of_text}
use Rattle.tilt_checkpoint.proofs.Queries.{query-reads}
use Rattle.tilt_live_state.proofs.query.query_of.Goals as goal

pub returns-in_err-query-clause-only : goal.returns-in_err-query-clause-only
returns-in_err-query-clause-only c =
    λ query is e.
    let p = err_from_is_err_and c.from_residual.result c.from_residual.ensures.1 in
    rw p.1 (p.2 ∙ ap of_text (c.in_err-query.ensures.only query (query-reads c.args.text.now query is e)))

pub returns-clause-only : goal.returns-clause-only
returns-clause-only c = λ query is e. c.in_ok-query.ensures.only query (query-reads c.args.text.now query is e)
