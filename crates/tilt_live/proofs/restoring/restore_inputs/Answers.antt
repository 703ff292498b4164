use Rattle.std.proofs.Common.{◌≡◌, ◌∙◌, ◌<◌, ◌≤◌, ◌+◌, List, [], ◌∷◌, ◌++◌, ap, drop, take, get_or, length, sym, subst, rules}
use Rattle.std.proofs.lemmas.List.{drop_all, drop_more, take_more}
use Rattle.std.specs.List.{AllByRecursion}
use Rattle.tilt_base.proofs.Lists.{all-push}
use Rattle.tilt_engine.specs.Engines.{IsEngineOf}
use Rattle.tilt_feed.specs.Events.{after_all}
use Rattle.tilt_feed.specs.Feed.{Feed, InputFeed}
use Rattle.tilt_feed.specs.Laws.{IsInOrder}
use Rattle.tilt_live.proofs.Events.{input-taken}
use Rattle.tilt_resume.specs.Restoring.{all_events, edge_events, row_events}
use Rattle.tilt_live.proofs.restoring.restore_inputs.Goals as goal

pub loop-input-preserved : goal.loop-input-preserved
loop-input-preserved c =
    let inputs = c.args.inputs.now in
    let index = c.loop-input.input-index in
    let item = c.input-item.result in
    let number = c.loop-input.invariant.number in
    let within : index < length inputs = search rules in
    let read : get_or inputs index item ≡ item = sym c.input-item.is in
    record {
      of = λ code feed given is.
          let before = c.loop-input.invariant.of code feed given is in
          let next : drop index inputs ≡ item ∷ drop (index + 1) inputs =
          drop_more inputs index item within ∙ ap (λ (i : InputFeed). i ∷ drop (index + 1) inputs) read in
          let one = c.in_ok-restore_rows.ensures.engine code before.0 given before.1 in
          let two = c.in_ok-restore_edge.ensures.engine code _ given one in (
            _,
            two,
            (λ k. after_all (all_events (index + 1) (drop (index + 1) inputs))
                (after_all (edge_events (number k) (c.edge.ensures.edge k)) (after_all (row_events (number k) (c.rows.ensures.rows k)) before.0)))
                ∙ input-taken index item (drop (index + 1) inputs) before.0
                ∙ ap (λ (list : List InputFeed). after_all (all_events index list) before.0) (sym next)
                ∙ before.2,
          );
      number = ap (λ n. n + 1) number;
      order =
          let front : take (index + 1) inputs ≡ take index inputs ++ item ∷ [] = take_more inputs index item within ∙ ap (λ (i : InputFeed). take index inputs ++ i ∷ []) read in
          subst (AllByRecursion IsInOrder) (sym front) (all-push IsInOrder (take index inputs) item c.loop-input.invariant.order c.rows.ensures.order);
      room = c.restore_edge.ensures.room ∙ c.restore_rows.ensures.room ∙ c.loop-input.invariant.room;
    }

pub returns-clause-engine : goal.returns-clause-engine
returns-clause-engine c = λ code feed given is.
    let before = c.loop-input.invariant.of code feed given is in
    let end : length c.args.inputs.now ≤ c.loop-input.input-index = search rules in
    let all = rw (drop_all c.loop-input.input-index c.args.inputs.now end) at before.2 in
    subst (λ (now : Feed). IsEngineOf c.loop-input.engine code now given) all before.1
