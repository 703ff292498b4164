use Rattle.std.proofs.Common.{◌≡◌, ◌∙◌, ℤ, ap, map, of_z, refl, rules, subst, sym, to_z, w64}
use Rattle.tilt_feed_form.specs.Kept.{FitsForm, kept_with}
use Rattle.tilt_feed_form.specs.declared.kept_feed.KeptFeed.{KeptFeed}
use Rattle.tilt_input_state.specs.Resume.{first_read}
use Rattle.tilt_live_run.proofs.Leaving.{given-fits, left-same}
use Rattle.tilt_live_run.specs.KeptRows.{KeepsRows}
use Rattle.tilt_live_run.specs.Left.{kept_given}
use Rattle.tilt_live_state.specs.State.{LiveStateParts, feed_of}
use Rattle.tilt_run_state.specs.State.{RunStateParts}
use Rattle.tilt_live_run.proofs.line_run.LineRun.resume.Goals as goal

pub resume-requires-2 : goal.resume-requires-2
resume-requires-2 c =
    let given = c.in_ok-kept.ensures ∙ ap kept_given c.from.view_is in
    subst (FitsForm c.args.options.form) (sym given)
    (given-fits c.args.accepted.core c.args.options.form c.args.from c.core-core.ensures.kept.valid c.requires.valid c.requires.fits c.requires.options)

pub returns-clause-is : goal.returns-clause-is
returns-clause-is c = λ feeds left kept.
    let core = c.args.accepted.core in
    let state = c.args.from.state in
    let progress = c.state.inside.progress in
    let view = c.state.view_is ∙ ap (λ (s : RunStateParts). s.state) c.from.view_is in
    let given = c.in_ok-kept.ensures ∙ ap kept_given c.from.view_is in
    let known = c.in_ok-known.ensures ∙ ap (map feed_of) (c.deref.ensures.value ∙ ap (λ (s : LiveStateParts). s.inputs) view) in
    let same : to_z w64 (of_z w64 progress.from) ≡ progress.from = search rules in
    let from = same ∙ ap (λ (s : LiveStateParts). s.progress.from) view in
    let finished = ap (λ (s : LiveStateParts). s.progress.finished) view in
    let tick = c.in_ok-resume.ensures.started.upto ∙ from in
    record {
      live = c.in_ok-resume.ensures.live feeds.feed
          (left-same core feeds.feed state.progress.from _ state.progress.finished _ (map feed_of state.inputs) _ from finished (c.deref-2.ensures.value ∙ known) left);
      kept_is = c.in_ok-resume-2.ensures.kept ∙ ap (λ (k : KeptFeed). kept_with c.args.options.form k) given ∙ kept;
      form_is = c.in_ok-resume-2.ensures.form;
      number_is = ap (λ (s : LiveStateParts). s.progress.lines) view;
      display_is = refl;
      strict_is = refl;
      rows = subst (λ (t : ℤ). KeepsRows c.in_ok-of.field-0 (first_read core t) feeds.feed) (sym tick)
          (c.in_ok-of.ensures.rows (first_read core state.progress.from) feeds.feed (λ going. c.deref-3.ensures.value ∙ known ∙ left.inputs_are going));
    }
