use Rattle.std.proofs.Common.{◌<◌, ◌∙◌, arith, length}
use Rattle.std.proofs.lemmas.List.{length-map}
use Rattle.tilt_reading_feed.proofs.Feeding.{within}
use Rattle.tilt_reading_feed.proofs.Loops.{turn-events, turn-next}
use Rattle.tilt_reading_feed.specs.Machine.{input_of, inputs_of}
use Rattle.tilt_reading_feed.proofs.turning.turn_all.Goals as goal

pub loop-place-preserved : goal.loop-place-preserved
loop-place-preserved c =
    let all = inputs_of c.args.converters.now in
    let now = inputs_of c.loop-place.converters in
    let place = c.loop-place.place in
    let i = c.loop-place.invariant in
    let e = c.turn_at.ensures in
    let many = length-map c.args.converters.now input_of in
    let below : place < length all = omega (arith, many, c.loop-place-test.true, c.loop-place.auto.place-end, c.loop-place.auto.converters) in
    let here = within all place below in
    record {
      inputs = turn-next c.args.turn all now (inputs_of c.turn_at.new.converters) place below i.inputs e.inputs;
      events = turn-events c.args.turn all now place here.0 c.loop-place.events.items c.turn_at.new.events.items _ here.1 i.inputs e.events i.events;
      spare = e.spare;
      capacity = e.capacity ∙ i.capacity;
      len = omega (arith, e.len, i.len);
    }
