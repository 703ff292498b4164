use Rattle.std.proofs.Common.{◌<◌, ◌∙◌, arith, length, refl}
use Rattle.std.proofs.lemmas.Option.{slice_get_read}
use Rattle.tilt_reading_feed.proofs.Loops.{hand-next, input-at}
use Rattle.tilt_reading_feed.specs.Machine.{input_of, inputs_of}
use Rattle.tilt_reading_feed.specs.Steps.{last_handed}
use Rattle.tilt_reading_feed.proofs.turning.finish_all.Goals as goal

pub loop-place-preserved : goal.loop-place-preserved
loop-place-preserved c =
    let converters = c.args.converters.now in
    let place = c.loop-place.place in
    let converter = c.index-converters-place.result in
    let i = c.loop-place.invariant in
    let e = c.finish_one.ensures in
    let within : place < length converters = omega (arith, c.loop-place-test.true, c.loop-place.auto.place-end) in
    let at = input-at converters place converter (slice_get_read converters (length converters) place converter refl within c.index-converters-place.is) in
    record {
      events = hand-next last_handed (inputs_of converters) place (input_of converter) c.loop-place.events.items c.finish_one.new.events.items _ at e.events i.events;
      spare = e.spare;
      capacity = e.capacity ∙ i.capacity;
      len = omega (arith, e.len, i.len);
    }
