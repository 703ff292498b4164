use Rattle.std.proofs.Common.{◌≡◌, ◌∙◌, ◌<◌, ◌≤◌, List, ◌∷◌, ◌+◌, ap, drop, length, sym, subst, rules}
use Rattle.std.proofs.lemmas.List.{drop_all, drop_more}
use Rattle.tilt_engine.specs.Engines.{IsEngineOf}
use Rattle.tilt_feed.specs.Events.{after, after_all}
use Rattle.tilt_feed.specs.Feed.{Feed}
use Rattle.tilt_feed.specs.declared.event.Event.TheVariants.{Input}
use Rattle.tilt_feed.specs.declared.update.Update.{Update}
use Rattle.tilt_resume.specs.Restoring.{row_events}
use Rattle.tilt_stream.specs.Snap.{Snapshot}
use Rattle.tilt_live.proofs.restoring.restore_rows.Goals as goal

pub loop-row-preserved : goal.loop-row-preserved
loop-row-preserved c = record {
  of = λ code feed given is.
      let rows = c.args.rows.now in
      let index = c.loop-row.row-index in
      let within : index < length rows = search rules in
      let before = c.loop-row.invariant.of code feed given is in
      let next : drop index rows ≡ c.row-item.result ∷ drop (index + 1) rows =
      drop_more rows index c.row-item.result within ∙ ap (λ (r : Snapshot). r ∷ drop (index + 1) rows) (sym c.row-item.is) in (
        _,
        c.in_ok-take_event.ensures.engine code before.0 given before.1,
        ap (λ (u : Update). after_all (row_events c.args.number (drop (index + 1) rows)) (after (Input c.args.number u) before.0)) c.row_update-update.ensures
            ∙ ap (λ (list : List Snapshot). after_all (row_events c.args.number list) before.0) (sym next)
            ∙ before.2,
      );
  room = c.take_event.ensures.room ∙ c.loop-row.invariant.room;
}

pub returns-clause-engine : goal.returns-clause-engine
returns-clause-engine c = λ code feed given is.
    let before = c.loop-row.invariant.of code feed given is in
    let end : length c.args.rows.now ≤ c.loop-row.row-index = search rules in
    let all = rw (drop_all c.loop-row.row-index c.args.rows.now end) at before.2 in
    subst (λ (now : Feed). IsEngineOf c.loop-row.engine code now given) all before.1
