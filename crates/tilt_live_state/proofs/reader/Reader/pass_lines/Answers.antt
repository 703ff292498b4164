use Rattle.std.proofs.Common.{sym, ◌∙◌}
use Rattle.tilt_checkpoint.specs.Reading.{behind_line}
use Rattle.tilt_checkpoint.proofs.Lines.{line_passed}
use Rattle.tilt_checkpoint.proofs.Steps.{times_taken}
use Rattle.tilt_live_state.proofs.reader.Reader.pass_lines.Goals as goal

pub loop-preserved : goal.loop-preserved
loop-preserved c =
    let passed = line_passed c.loop.self c.in_ok-until.field-0.now c.until.new.self c.in_ok-until.ensures in
    sym (times_taken behind_line c.args.count c.loop.counter c.loop.self c.until.new.self c.loop-test.true passed) ∙ c.loop.invariant
