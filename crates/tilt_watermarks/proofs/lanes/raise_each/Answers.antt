use Rattle.std.proofs.Common.{◌<◌, ◌+◌, ◌∙◌, ap, get_or, length, arith, add-one}
use Rattle.std.proofs.lemmas.List.{get_or_default}
use Rattle.std.proofs.lemmas.List.Edits.{map_over_more}
use Rattle.std.proofs.lemmas.Option.{slice_get-get_or}
use Rattle.tilt_watermarks.proofs.Places.{count-item, count-set, raising-step, rest-next}
use Rattle.tilt_watermarks.specs.Steps.{raised}
use Rattle.tilt_watermarks.proofs.lanes.raise_each.Goals as goal

pub raise_one-requires-clause-some : goal.raise_one-requires-clause-some
raise_one-requires-clause-some c =
    let list = c.loop-lane.lanes in
    let index = c.loop-lane.lane-index in
    let within : index < length list = omega (arith, c.loop-lane.auto.lanes, c.loop-lane-test.true) in
    let few = count-item list index (get_or list index c.lane-item.result) (slice_get-get_or list index c.lane-item.result within) in
    omega (arith, few, c.loop-lane.invariant.count)

pub raise_one-requires-clause-room : goal.raise_one-requires-clause-room
raise_one-requires-clause-room c =
    let list = c.loop-lane.lanes in
    let index = c.loop-lane.lane-index in
    let within : index < length list = omega (arith, c.loop-lane.auto.lanes, c.loop-lane-test.true) in
    let few = count-item list index (get_or list index c.lane-item.result) (slice_get-get_or list index c.lane-item.result within) in
    omega (arith, few, c.loop-lane.invariant.count, c.loop-lane.invariant.len, c.loop-lane.invariant.capacity, c.requires.room, c.loop-lane-test.true)

pub loop-lane-preserved : goal.loop-lane-preserved
loop-lane-preserved c =
    let list = c.loop-lane.lanes in
    let index = c.loop-lane.lane-index in
    let old = c.args.lanes.now in
    let f = raised c.args.end in
    let within : index < length list = omega (arith, c.loop-lane.auto.lanes, c.loop-lane-test.true) in
    let item = get_or list index c.lane-item.result in
    let at = slice_get-get_or list index c.lane-item.result within in
    let i = c.loop-lane.invariant in
    let rest = rest-next f old list index c.lane-item.result c.loop-lane-test.true i.lanes in
    let set = count-set list index item c.raise_one.new.lane at in
    let few = count-item list index item at in
    record {
      number = ap (λ n. n + 1) i.number;
      lanes = rw (c.raise_one.ensures.lane)
          (map_over_more f old list index item c.loop-lane-test.true i.lanes (get_or_default list index c.lane-item.result item within));
      count = omega (arith, set, few, c.raise_one.ensures.count, i.count);
      fewer = omega (arith, c.raise_one.ensures.fewer, i.fewer);
      events = rw add-one
          (raising-step c.loop-lane.events.items c.raise_one.new.events.items _ index c.args.end old item rest i.events
          (rw (i.number) at c.raise_one.ensures.events));
      capacity = c.raise_one.ensures.capacity ∙ i.capacity;
      len = omega (arith, c.raise_one.ensures.len, i.len);
    }
