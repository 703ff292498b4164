use Rattle.std.proofs.Common.{◌≡◌, ◌∙◌, ap, false, get_or, length, refl, slice_set, sym}
use Rattle.std.proofs.lemmas.Option.{slice_get_read}
use Rattle.std.proofs.lemmas.Result.{on_ok_weaker}
use Rattle.tilt_engine.proofs.InletPlaces.{edge-at, updated-at, updated-past}
use Rattle.tilt_engine.specs.Stock.{resting_inlet}
use Rattle.tilt_feed.specs.Events.{update_fault, updated}
use Rattle.tilt_feed.specs.declared.edge.Edge.{Edge}
use Rattle.tilt_engine.proofs.events.update_at.Goals as goal

pub update-requires : goal.update-requires
update-requires c =
    let inlets = c.args.inputs.now in
    let number = c.args.number in
    let i = c.index-inputs-place.result in
    let is = slice_get_read inlets (length inlets) number i refl c.if-place-inputs.true c.index-inputs-place.is in
    rw (← c.index-inputs-place.is) (sym (ap (λ (e : Edge). update_fault false e c.args.update) (edge-at inlets number i is)) ∙ c.requires)

pub returns-then-place-inputs-clause-ok : goal.returns-then-place-inputs-clause-ok
returns-then-place-inputs-clause-ok c =
    let inlets = c.args.inputs.now in
    let number = c.args.number in
    let i = c.index-inputs-place.result in
    let is = slice_get_read inlets (length inlets) number i refl c.if-place-inputs.true c.index-inputs-place.is in
    on_ok_weaker c.update.result
    (λ (new : c.update.new.self ≡ resting_inlet (updated c.args.update (get_or inlets number i).input)).
    ap (slice_set inlets number) (rw (← c.index-inputs-place.is) at new) ∙ sym (updated-at inlets number i c.args.update is)) c.update.ensures.ok

pub returns-else-place-inputs-clause-ok : goal.returns-else-place-inputs-clause-ok
returns-else-place-inputs-clause-ok c = sym (updated-past c.args.inputs.now c.args.number c.args.update c.if-place-inputs.false)
