use Rattle.std.proofs.Common.{◌∙◌}
use Rattle.std.proofs.lemmas.Result.{err_from_is_err_and}
use Rattle.tilt_commands.proofs.Corrections.{edits-fault, edits-made}
use Rattle.tilt_commands.proofs.corrected.correct.Goals as goal

pub returns-in_err-reached-clause-fault : goal.returns-in_err-reached-clause-fault
returns-in_err-reached-clause-fault c =
    let p = err_from_is_err_and c.from_residual-in_err-reached.result c.from_residual-in_err-reached.ensures.1 in
    let refused = rw c.in_ok-live.ensures.rows at c.in_err-reached.ensures.refused in
    rw (p.1, p.2) (edits-fault c.args.accepted.core c.args.accepted.margins c.args.rows.items c.args.edits.now c.in_err-reached.field-0.0 refused)

pub returns-clause-made : goal.returns-clause-made
returns-clause-made c =
    let reaches = rw c.in_ok-live.ensures.query at c.in_ok-reached.ensures.reached in
    let applies = rw c.in_ok-live.ensures.rows at c.in_ok-reached.ensures.rows in
    edits-made c.args.accepted c.args.rows.items c.args.edits.now c.apply_all.new.live c.into_output.result c.in_ok-reached.reached.items
    (c.in_ok-reached.ensures.query ∙ c.in_ok-live.ensures.query) applies c.into_output.ensures.law reaches
