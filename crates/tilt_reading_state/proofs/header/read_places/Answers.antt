use Rattle.std.proofs.Common.{[], sym, ◌∙◌}
use Rattle.std.proofs.lemmas.Result.{err_from_is_err_and}
use Rattle.tilt_checkpoint.proofs.Steps.{times_taken}
use Rattle.tilt_live_state.specs.Reading.{count_field}
use Rattle.tilt_reading_state.specs.Reading.{with_one}
use Rattle.tilt_reading_state.proofs.Steps.{times_bad}
use Rattle.tilt_reading_state.proofs.header.read_places.Goals as goal

pub returns-in_err-push_place : goal.returns-in_err-push_place
returns-in_err-push_place c =
    let p = err_from_is_err_and c.from_residual.result c.from_residual.ensures.1 in
    let found = rw (← p.2) at c.in_err-push_place.ensures in
    let h = times_bad (with_one (count_field 10)) c.args.count c.loop.counter (c.loop.places.items, c.loop.reader) ([], c.args.reader.now) p.0
    c.loop-test.true c.loop.invariant found in
    rw p.1 h

pub loop-preserved : goal.loop-preserved
loop-preserved c =
    sym (times_taken (with_one (count_field 10)) c.args.count c.loop.counter (c.loop.places.items, c.loop.reader)
    (c.push_place.new.places.items, c.push_place.new.reader) c.loop-test.true c.in_ok-push_place.ensures)
    ∙ c.loop.invariant
