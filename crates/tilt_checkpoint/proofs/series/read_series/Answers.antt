use Rattle.std.proofs.Common.{[], sym, ◌∙◌}
use Rattle.std.proofs.lemmas.Result.{err_from_is_err_and}
use Rattle.tilt_checkpoint.specs.Reading.{with_kept}
use Rattle.tilt_checkpoint.proofs.Steps.{times_bad, times_taken}
use Rattle.tilt_checkpoint.proofs.series.read_series.Goals as goal

pub returns-in_err-push_kept : goal.returns-in_err-push_kept
returns-in_err-push_kept c =
    let p = err_from_is_err_and c.from_residual.result c.from_residual.ensures.1 in
    let told = rw (← p.2) at c.in_err-push_kept.ensures in
    let h = times_bad (with_kept c.args.form) c.args.inputs c.loop.counter (c.loop.series.items, c.loop.reader) ([], c.args.reader.now) p.0
    c.loop-test.true c.loop.invariant told in
    rw p.1 h

pub loop-preserved : goal.loop-preserved
loop-preserved c =
    sym (times_taken (with_kept c.args.form) c.args.inputs c.loop.counter (c.loop.series.items, c.loop.reader)
    (c.push_kept.new.series.items, c.push_kept.new.reader) c.loop-test.true c.in_ok-push_kept.ensures)
    ∙ c.loop.invariant
