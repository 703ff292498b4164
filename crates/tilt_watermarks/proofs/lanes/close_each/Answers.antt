use Rattle.std.proofs.Common.{◌∙◌, get_or, refl, map, length, ◌<◌, arith}
use Rattle.std.proofs.lemmas.List.{append-nil, drop_all, take_all, get_or_default}
use Rattle.std.proofs.lemmas.List.Edits.{map_over_more}
use Rattle.tilt_watermarks.proofs.Places.{count-closed}
use Rattle.tilt_watermarks.specs.Steps.{closed}
use Rattle.tilt_watermarks.proofs.lanes.close_each.Goals as goal

pub loop-lane-preserved : goal.loop-lane-preserved
loop-lane-preserved c =
    let within : c.loop-lane.lane-index < length c.loop-lane.lanes = omega (arith, c.loop-lane.auto.lanes, c.loop-lane-test.true) in
    let list = c.loop-lane.lanes in
    let index = c.loop-lane.lane-index in
    let item = get_or list index c.lane-item.result in
    rw (c.close.ensures)
    (map_over_more closed c.args.lanes.now list index item c.loop-lane-test.true c.loop-lane.invariant (get_or_default list index c.lane-item.result item within))

pub returns-clause-lanes : goal.returns-clause-lanes
returns-clause-lanes c =
    let past = c.loop-lane-test.false in
    let old = c.args.lanes.now in
    let index = c.loop-lane.lane-index in
    c.loop-lane.invariant ∙ rw (take_all index old past, drop_all index old past, append-nil (map closed old)) refl

pub returns-clause-count : goal.returns-clause-count
returns-clause-count c =
    let past = c.loop-lane-test.false in
    let old = c.args.lanes.now in
    let index = c.loop-lane.lane-index in
    let is = c.loop-lane.invariant ∙ rw (take_all index old past, drop_all index old past, append-nil (map closed old)) refl in
    rw is (count-closed old)
