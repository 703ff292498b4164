use Rattle.std.proofs.Common.{◌∙◌, ◌<◌, ◌≤◌, List, ap, length, refl, sym, subst, rules}
use Rattle.std.proofs.lemmas.List.{drop_all, drop_more}
use Rattle.tilt_feed.specs.Events.{after_all}
use Rattle.tilt_feed.specs.Feed.{Feed}
use Rattle.tilt_feed.specs.declared.event.Event.{Event}
use Rattle.tilt_live.specs.Lives.{IsLiveOf}
use Rattle.tilt_live_run.specs.KeptRows.{KeepsRows}
use Rattle.tilt_live_run.proofs.events.take_events.Goals as goal

pub loop-event-init : goal.loop-event-init
loop-event-init c = record {
  of = λ accepted feed given is. (feed, is, refl);
  rows = λ first feed is. (feed, is, refl);
  tick = refl;
  keeps = refl;
  live = λ is. is;
}

pub loop-event-preserved : goal.loop-event-preserved
loop-event-preserved c = record {
  of = λ accepted feed given is.
      let within : c.loop-event.event-index < length c.args.events.now = search rules in
      let before = c.loop-event.invariant.of accepted feed given is in
      let next = drop_more c.args.events.now c.loop-event.event-index _ within in
      (_, c.in_ok-take_event.ensures.taken accepted before.0 given before.1, ap (λ (list : List Event). after_all list before.0) (sym next) ∙ before.2);
  rows = λ first feed is.
      let within : c.loop-event.event-index < length c.args.events.now = search rules in
      let before = c.loop-event.invariant.rows first feed is in
      let next = drop_more c.args.events.now c.loop-event.event-index _ within in
      (_, c.in_ok-take.ensures.rows first before.0 before.1, ap (λ (list : List Event). after_all list before.0) (sym next) ∙ before.2);
  tick = c.take_event.ensures.tick ∙ c.loop-event.invariant.tick;
  keeps = c.take.ensures.keeps ∙ c.loop-event.invariant.keeps;
  live = λ is. c.take_event.ensures.live (c.loop-event.invariant.live is);
}

pub returns-clause-taken : goal.returns-clause-taken
returns-clause-taken c = λ accepted feed given is.
    let before = c.loop-event.invariant.of accepted feed given is in
    let end : length c.args.events.now ≤ c.loop-event.event-index = search rules in
    let all = rw (drop_all c.loop-event.event-index c.args.events.now end) at before.2 in
    subst (λ (now : Feed). IsLiveOf c.loop-event.live accepted now given) all before.1

pub returns-clause-rows : goal.returns-clause-rows
returns-clause-rows c = λ first feed is.
    let before = c.loop-event.invariant.rows first feed is in
    let end : length c.args.events.now ≤ c.loop-event.event-index = search rules in
    let all = rw (drop_all c.loop-event.event-index c.args.events.now end) at before.2 in
    subst (λ (now : Feed). KeepsRows c.loop-event.rows first now) all before.1

pub returns-in_err-take_event-clause-live : goal.returns-in_err-take_event-clause-live
returns-in_err-take_event-clause-live c = λ is. c.take_event.ensures.live (c.loop-event.invariant.live is)
