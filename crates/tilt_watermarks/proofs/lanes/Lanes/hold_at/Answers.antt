use Rattle.std.proofs.Common.{Some, length, refl, sym, ◌∙◌, arith}
use Rattle.std.proofs.lemmas.Bool.{not-false}
use Rattle.std.proofs.lemmas.Option.{slice_get_read}
use Rattle.tilt_watermarks.proofs.Places.{count-item, count-set, entered-at, handed-at, overlaps-at}
use Rattle.tilt_watermarks.specs.Held.{fits, with_update}
use Rattle.tilt_watermarks.proofs.lanes.Lanes.hold_at.Goals as goal

pub enter-requires-clause-fits : goal.enter-requires-clause-fits
enter-requires-clause-fits c =
    let items = c.args.self.now.lanes.items in
    let lane = c.index_mut-lane.result.now in
    let at = slice_get_read items (length items) c.args.place lane refl c.requires.there c.index_mut-lane.ensures.value in
    not-false (fits lane.edge.watermark (with_update c.args.update lane.held)) (sym (overlaps-at (Some c.args.ticks) items c.args.place lane c.args.update at) ∙ c.requires.fits)

pub enter-requires-clause-room : goal.enter-requires-clause-room
enter-requires-clause-room c =
    let items = c.args.self.now.lanes.items in
    let lane = c.index_mut-lane.result.now in
    let at = slice_get_read items (length items) c.args.place lane refl c.requires.there c.index_mut-lane.ensures.value in
    let few = count-item items c.args.place lane at in
    omega (arith, few, c.requires.room)

pub overflow_sub-self : goal.overflow_sub-self
overflow_sub-self c =
    let items = c.args.self.now.lanes.items in
    let lane = c.index_mut-lane.result.now in
    let at = slice_get_read items (length items) c.args.place lane refl c.requires.there c.index_mut-lane.ensures.value in
    let few = count-item items c.args.place lane at in
    omega (arith, few, c.held-before.ensures, c.args.self.now.count)

pub invariant_of-self-2-clause-count : goal.invariant_of-self-2-clause-count
invariant_of-self-2-clause-count c =
    let items = c.args.self.now.lanes.items in
    let lane = c.index_mut-lane.result.now in
    let at = slice_get_read items (length items) c.args.place lane refl c.requires.there c.index_mut-lane.ensures.value in
    let few = count-item items c.args.place lane at in
    let set = count-set items c.args.place lane c.enter.new.self at in
    omega (arith, few, set, c.held-before.ensures, c.held-after.ensures, c.args.self.now.count)

pub returns-clause-lanes : goal.returns-clause-lanes
returns-clause-lanes c =
    let items = c.args.self.now.lanes.items in
    let lane = c.index_mut-lane.result.now in
    let at = slice_get_read items (length items) c.args.place lane refl c.requires.there c.index_mut-lane.ensures.value in
    rw (c.in_ok-enter.ensures.lane) (sym (entered-at (Some c.args.ticks) items c.args.place lane c.args.update at))

pub returns-clause-events : goal.returns-clause-events
returns-clause-events c =
    let items = c.args.self.now.lanes.items in
    let lane = c.index_mut-lane.result.now in
    let at = slice_get_read items (length items) c.args.place lane refl c.requires.there c.index_mut-lane.ensures.value in
    rw (handed-at (Some c.args.ticks) items c.args.place lane c.args.update at) (c.in_ok-enter.ensures.events)

pub returns-clause-len : goal.returns-clause-len
returns-clause-len c =
    let items = c.args.self.now.lanes.items in
    let lane = c.index_mut-lane.result.now in
    let at = slice_get_read items (length items) c.args.place lane refl c.requires.there c.index_mut-lane.ensures.value in
    let set = count-set items c.args.place lane c.enter.new.self at in
    omega (arith, set, c.in_ok-enter.ensures.len)
