use Rattle.std.proofs.Common.{◌≤◌, ◌<◌, ◌∙◌, None, List, length, slice_set, refl, sym, ap, arith, rules}
use Rattle.std.proofs.lemmas.Option.{slice_get_read}
use Rattle.tilt_feed.specs.declared.update.Update.{Update}
use Rattle.tilt_watermarks.proofs.Places.{count-none, count-set, entered-at, entered-past, handed-at, handed-past}
use Rattle.tilt_watermarks.specs.Held.{Waiting, moved}
use Rattle.tilt_watermarks.proofs.lanes.Lanes.enter.Goals as goal

pub returns-then-place-len-clause-lanes : goal.returns-then-place-len-clause-lanes
returns-then-place-len-clause-lanes c =
    let items = c.args.self.now.lanes.items in
    let past : length items ≤ c.args.number = search rules in
    sym (entered-past c.args.lateness items c.args.number c.args.update past)

pub returns-then-place-len-clause-events : goal.returns-then-place-len-clause-events
returns-then-place-len-clause-events c =
    let items = c.args.self.now.lanes.items in
    let past : length items ≤ c.args.number = search rules in
    rw (handed-past c.args.lateness items c.args.number c.args.update past) (c.push_reserved.ensures.items)

pub move_by-requires-clause-none : goal.move_by-requires-clause-none
move_by-requires-clause-none c =
    let items = c.args.self.now.lanes.items in
    let lane = c.index_mut.result.now in
    let there : c.args.number < length items = search rules in
    let at = slice_get_read items (length items) c.args.number lane refl there c.index_mut.ensures.value in
    count-none items c.args.number lane (c.requires.none c.in-None.is) at

pub invariant_of-self-clause-count : goal.invariant_of-self-clause-count
invariant_of-self-clause-count c =
    let items = c.args.self.now.lanes.items in
    let lane = c.index_mut.result.now in
    let there : c.args.number < length items = search rules in
    let at = slice_get_read items (length items) c.args.number lane refl there c.index_mut.ensures.value in
    let none = count-none items c.args.number lane (c.requires.none c.in-None.is) at in
    let set = count-set items c.args.number lane c.move_by.new.self at in
    let before = ap (λ (list : List Update). length list) none in
    let after = ap (λ (w : Waiting). length w.held) c.move_by.ensures in
    omega (arith, set, before, after, c.args.self.now.count)

pub returns-in-None-clause-lanes : goal.returns-in-None-clause-lanes
returns-in-None-clause-lanes c =
    let items = c.args.self.now.lanes.items in
    let lane = c.index_mut.result.now in
    let there : c.args.number < length items = search rules in
    let at = slice_get_read items (length items) c.args.number lane refl there c.index_mut.ensures.value in
    let none = count-none items c.args.number lane (c.requires.none c.in-None.is) at in
    rw (c.in-None.is, c.move_by.ensures)
    (ap (λ (held : List Update). let w : Waiting = record { edge = moved c.args.update lane.edge; held = held } in slice_set items c.args.number w) (sym none)
    ∙ sym (entered-at None items c.args.number lane c.args.update at))

pub returns-in-None-clause-events : goal.returns-in-None-clause-events
returns-in-None-clause-events c =
    let items = c.args.self.now.lanes.items in
    let lane = c.index_mut.result.now in
    let there : c.args.number < length items = search rules in
    let at = slice_get_read items (length items) c.args.number lane refl there c.index_mut.ensures.value in
    rw (c.in-None.is, handed-at None items c.args.number lane c.args.update at) (c.push_reserved-in-None.ensures.items)
