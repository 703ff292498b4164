use Rattle.std.proofs.Common.{[], sym, ◌∙◌}
use Rattle.std.proofs.lemmas.Result.{err_from_is_err_and}
use Rattle.tilt_checkpoint.proofs.Steps.{times_taken}
use Rattle.tilt_live_state.specs.Reading.{with_row}
use Rattle.tilt_live_state.proofs.Steps.{times_bad}
use Rattle.tilt_live_state.proofs.inputs.read_rows.Goals as goal

pub returns-in_err-push_row : goal.returns-in_err-push_row
returns-in_err-push_row c =
    let p = err_from_is_err_and c.from_residual.result c.from_residual.ensures.1 in
    let found = rw (← p.2) at c.in_err-push_row.ensures in
    let h = times_bad with_row c.args.count c.loop.counter (c.loop.rows, c.loop.reader) ([], c.args.reader.now) p.0
    c.loop-test.true c.loop.invariant found in
    rw p.1 h

pub loop-preserved : goal.loop-preserved
loop-preserved c =
    sym (times_taken with_row c.args.count c.loop.counter (c.loop.rows, c.loop.reader)
    (c.push_row.new.rows, c.push_row.new.reader) c.loop-test.true c.in_ok-push_row.ensures)
    ∙ c.loop.invariant
