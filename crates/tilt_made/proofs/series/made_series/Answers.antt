use Rattle.std.proofs.Common.{arith}
use Rattle.tilt_made.proofs.Rows.{series_more, state_more, end_more}
use Rattle.tilt_made.proofs.series.made_series.Goals as goal

pub loop-preserved : goal.loop-preserved
loop-preserved c =
    let made = c.row-row.ensures in
    let pushed = c.in_ok-push.ensures.ok in
    let rows = series_more c.loop.rows c.push.new.self _ c.row-row.result c.args.count c.loop.counter c.loop.generator.state c.loop.position
    c.row-row.new.self.state c.row-row.new.position c.loop-test.true made.row made.state made.position pushed c.loop.invariant.0 in
    let state = state_more c.args.count c.loop.counter c.loop.generator.state c.row-row.new.self.state _ c.loop-test.true made.state c.loop.invariant.1 in
    let end = end_more c.loop.rows c.push.new.self c.row-row.result c.loop.generator.state c.loop.position c.row-row.new.position made.row made.position pushed in
    (rows, state, end, omega (arith, made.short, c.loop.invariant.3))
