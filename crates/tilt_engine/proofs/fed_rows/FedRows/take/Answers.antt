use Rattle.std.proofs.Common.{◌≡◌, ◌∙◌, List, None, ap, length, refl, sym}
use Rattle.std.proofs.lemmas.List.{with_items_is}
use Rattle.tilt_engine.proofs.Fed.{fed-fault, fed-same, fed-taken}
use Rattle.tilt_engine.proofs.InletPlaces.{fault-unfinished}
use Rattle.tilt_engine.proofs.Taking.{at-err, at-ok}
use Rattle.tilt_engine.specs.Inlets.{inlet_fault, inlets_after}
use Rattle.tilt_engine.specs.Stock.{InletParts}
use Rattle.tilt_feed.specs.Events.{event_fault}
use Rattle.tilt_engine.proofs.fed_rows.FedRows.take.Goals as goal

pub returns-in-Some : goal.returns-in-Some
returns-in-Some c = record {
  taken = λ first feed is. (
    sym (fed-fault c.args.self.now first feed c.args.event is)
        ∙ sym (ap (λ (list : List InletParts). inlet_fault c.args.self.now.finished list c.args.event) c.deref.ensures.value)
        ∙ sym c.fault_of.ensures ∙ c.in-Some.is,
    is,
  );
}

pub take_event-requires : goal.take_event-requires
take_event-requires c =
    let e = c.args.self.now in
    let of = λ (list : List InletParts). inlet_fault e.finished list c.args.event in
    let none : None ≡ inlet_fault e.finished e.inputs.items c.args.event =
    sym c.in_default.is ∙ c.fault_of.ensures ∙ ap of c.deref.ensures.value in
    rw c.deref_mut.ensures.value (fault-unfinished e.finished e.inputs.items c.args.event none)

pub returns-then-is_err : goal.returns-then-is_err
returns-then-is_err c = record {
  taken = λ first feed is.
      let e = c.args.self.now in
      let inputs = e.inputs in
      let items = c.take_event.new.inputs in
      let none : event_fault feed c.args.event ≡ None =
      sym (fed-fault e first feed c.args.event is) ∙ sym (ap (λ (list : List InletParts). inlet_fault e.finished list c.args.event) c.deref.ensures.value)
      ∙ sym c.fault_of.ensures ∙ c.in_default.is in
      let made : items ≡ c.deref_mut.result.now = at-err c.take_event.result c.if-is_err.ensures.value c.take_event.ensures.err in
      let many : length items ≡ inputs.len = c.take_event.auto.inputs ∙ c.deref_mut.ensures.len in
      (none, fed-same e _ first feed refl (with_items_is inputs items many ∙ made ∙ c.deref_mut.ensures.value) is);
}

pub returns : goal.returns
returns c = record {
  taken = λ first feed is.
      let e = c.args.self.now in
      let inputs = e.inputs in
      let items = c.take_event.new.inputs in
      let of = λ (list : List InletParts). inlet_fault e.finished list c.args.event in
      let none : event_fault feed c.args.event ≡ None =
      sym (fed-fault e first feed c.args.event is) ∙ sym (ap of c.deref.ensures.value) ∙ sym c.fault_of.ensures ∙ c.in_default.is in
      let made : items ≡ inlets_after c.args.event c.deref_mut.result.now = at-ok c.take_event.result c.if-is_err.ensures.value c.take_event.ensures.ok in
      let many : length items ≡ inputs.len = c.take_event.auto.inputs ∙ c.deref_mut.ensures.len in (
        none,
        fed-taken e _ first feed c.args.event is none c.finishes-self.ensures
            (with_items_is inputs items many ∙ made ∙ ap (inlets_after c.args.event) c.deref_mut.ensures.value),
      );
}
