use Rattle.std.proofs.Common.{[], sym, ◌∙◌}
use Rattle.std.proofs.lemmas.Result.{err_from_is_err_and}
use Rattle.tilt_checkpoint.proofs.Steps.{times_taken}
use Rattle.tilt_reading_state.specs.Reading.{input_at, with_one}
use Rattle.tilt_reading_state.proofs.Steps.{times_bad}
use Rattle.tilt_reading_state.proofs.inputs.read_inputs.Goals as goal

pub returns-in_err-push_input : goal.returns-in_err-push_input
returns-in_err-push_input c =
    let p = err_from_is_err_and c.from_residual.result c.from_residual.ensures.1 in
    let found = rw (← p.2) at c.in_err-push_input.ensures in
    let h = times_bad (with_one input_at) c.args.count c.loop.counter (c.loop.inputs.items, c.loop.reader) ([], c.args.reader.now) p.0
    c.loop-test.true c.loop.invariant found in
    rw p.1 h

pub loop-preserved : goal.loop-preserved
loop-preserved c =
    sym (times_taken (with_one input_at) c.args.count c.loop.counter (c.loop.inputs.items, c.loop.reader)
    (c.push_input.new.inputs.items, c.push_input.new.reader) c.loop-test.true c.in_ok-push_input.ensures)
    ∙ c.loop.invariant
