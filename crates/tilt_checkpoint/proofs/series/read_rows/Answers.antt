use Rattle.std.proofs.Common.{sym, ◌∙◌}
use Rattle.tilt_checkpoint.specs.Reading.{with_row}
use Rattle.tilt_checkpoint.proofs.Steps.{times_taken}
use Rattle.tilt_checkpoint.proofs.series.read_rows.Goals as goal

pub loop-preserved : goal.loop-preserved
loop-preserved c =
    sym (times_taken (with_row _ _) c.args.count c.loop.counter (c.loop.rows, c.loop.reader)
    (c.push_row.new.rows, c.push_row.new.reader) c.loop-test.true c.in_ok-push_row.ensures)
    ∙ c.loop.invariant
