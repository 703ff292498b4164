use Rattle.std.proofs.Common.{◌≡◌, ◌≤◌, ◌+◌, ◌∙◌, subst, List, None, ap, length, refl, sym}
use Rattle.std.proofs.lemmas.List.{with_items_is}
use Rattle.tilt_engine.proofs.InletPlaces.{fault-unfinished}
use Rattle.tilt_engine.proofs.Rooms.{room-after}
use Rattle.tilt_engine.proofs.Taking.{IsBeside, at-err, at-ok, engine-fault, engine-same-of, engine-taken, few-more}
use Rattle.tilt_engine.specs.Engines.{held_by}
use Rattle.tilt_engine.specs.Forgetting.{kept_lists}
use Rattle.tilt_engine.specs.Inlets.{inlet_fault, inlets_after}
use Rattle.tilt_pipe.specs.Rings.{held}
use Rattle.std.specs.Vec.{with_items}
use Rattle.tilt_engine.specs.Stock.{InletParts}
use Rattle.tilt_engine.specs.declared.engine.Engine.{Engine}
use Rattle.tilt_feed.specs.Events.{event_fault}
use Rattle.tilt_engine.proofs.engine.Engine.take.Goals as goal

pub returns-in-Some-clause-taken : goal.returns-in-Some-clause-taken
returns-in-Some-clause-taken c = λ code feed given is. (
  sym (engine-fault c.args.self.now code feed given c.args.event is.at)
      ∙ sym (ap (λ (list : List InletParts). inlet_fault c.args.self.now.finished list c.args.event) c.deref.ensures.value)
      ∙ sym c.fault_of.ensures ∙ c.in-Some.is,
  is,
)

pub take_event-requires : goal.take_event-requires
take_event-requires c =
    let e = c.args.self.now in
    let of = λ (list : List InletParts). inlet_fault e.finished list c.args.event in
    let none : None ≡ inlet_fault e.finished e.stock.inputs.items c.args.event =
    sym c.in_default.is ∙ c.fault_of.ensures ∙ ap of c.deref.ensures.value in
    rw c.deref_mut.ensures.value (fault-unfinished e.finished e.stock.inputs.items c.args.event none)

pub returns-clause-taken : goal.returns-clause-taken
returns-clause-taken c = λ code feed given is.
    let e = c.args.self.now in
    let event = c.args.event in
    let inputs = e.stock.inputs in
    let items = c.take_event.new.inputs in
    let later : Engine = record {
      code = e.code;
      stock = record { inputs = with_items inputs items; loops = e.stock.loops };
      states = e.states;
      horizons = e.horizons;
      status = c.behind-self.result;
      finished = c.finishes-self.result;
      given = e.given;
      limit = e.limit;
      alloc = e.alloc;
    } in
    let of = λ (list : List InletParts). inlet_fault e.finished list event in
    let none : event_fault feed event ≡ None =
    sym (engine-fault e code feed given event is.at) ∙ sym (ap of c.deref.ensures.value) ∙ sym c.fault_of.ensures ∙ c.in_default.is in
    let made : items ≡ inlets_after event c.deref_mut.result.now = at-ok c.take_event.result c.if-is_err.ensures.value c.take_event.ensures.ok in
    let many : length items ≡ inputs.len = c.take_event.auto.inputs ∙ c.deref_mut.ensures.len in
    let all = with_items_is inputs items many ∙ made ∙ ap (inlets_after event) c.deref_mut.ensures.value in
    let beside : IsBeside e later = record { code = refl; given = refl; loops = refl; states = refl } in
    let behind = c.behind-self.ensures.behind is.at.sound in (
      none,
      record {
        at = engine-taken e later code feed given event beside c.finishes-self.ensures all behind none is.at;
        few = λ now. absurd (cc (now, behind));
        room = room-after code feed given event e.limit is.room;
      },
    )

pub returns-then-is_err-clause-taken : goal.returns-then-is_err-clause-taken
returns-then-is_err-clause-taken c = λ code feed given is.
    let e = c.args.self.now in
    let inputs = e.stock.inputs in
    let items = c.take_event.new.inputs in
    let later : Engine = record {
      code = e.code;
      stock = record { inputs = with_items inputs items; loops = e.stock.loops };
      states = e.states;
      horizons = e.horizons;
      status = e.status;
      finished = e.finished;
      given = e.given;
      limit = e.limit;
      alloc = e.alloc;
    } in
    let none : event_fault feed c.args.event ≡ None =
    sym (engine-fault e code feed given c.args.event is.at) ∙ sym (ap (λ (list : List InletParts). inlet_fault e.finished list c.args.event) c.deref.ensures.value)
    ∙ sym c.fault_of.ensures ∙ c.in_default.is in
    let made : items ≡ c.deref_mut.result.now = at-err c.take_event.result c.if-is_err.ensures.value c.take_event.ensures.err in
    let many : length items ≡ inputs.len = c.take_event.auto.inputs ∙ c.deref_mut.ensures.len in
    let all = with_items_is inputs items many ∙ made ∙ c.deref_mut.ensures.value in
    let beside : IsBeside e later = record { code = refl; given = refl; loops = refl; states = refl } in
    (none, engine-same-of e later code feed given beside refl all refl refl is)

pub returns-clause-more : goal.returns-clause-more
returns-clause-more c =
    let e = c.args.self.now in
    let event = c.args.event in
    let inputs = e.stock.inputs in
    let items = c.take_event.new.inputs in
    let made : items ≡ inlets_after event c.deref_mut.result.now = at-ok c.take_event.result c.if-is_err.ensures.value c.take_event.ensures.ok in
    let many : length items ≡ inputs.len = c.take_event.auto.inputs ∙ c.deref_mut.ensures.len in
    let all = with_items_is inputs items many ∙ made ∙ ap (inlets_after event) c.deref_mut.ensures.value in
    subst (λ (list : List InletParts). held (kept_lists list e.stock.loops.items) ≤ held_by e + 2) (sym all) (few-more event inputs.items e.stock.loops.items)
