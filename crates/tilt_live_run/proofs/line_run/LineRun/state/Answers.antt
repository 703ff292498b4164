use Rattle.std.proofs.Common.{◌≡◌, ◌∙◌, ℤ, ap, length, of_z, refl, rules, subst, sym, to_z, w64}
use Rattle.tilt_feed.specs.Printed.{begun, printed}
use Rattle.tilt_feed_form.specs.Kept.{IsOfForm, bare_kept}
use Rattle.tilt_feed_form.specs.Machine.{form_of, kept_of}
use Rattle.tilt_feed_form.specs.Said.{TextKept}
use Rattle.tilt_feed_form.specs.declared.feed_form.FeedForm.{FeedForm}
use Rattle.tilt_input_state.specs.Resume.{first_read}
use Rattle.tilt_live_run.proofs.Leaving.{kept-resumable}
use Rattle.tilt_live_run.specs.KeptRows.{KeepsRows}
use Rattle.tilt_live_run.specs.Leaves.{AreResumable}
use Rattle.tilt_live_run.specs.Left.{watermark_options}
use Rattle.tilt_live_run.proofs.line_run.LineRun.state.Goals as goal

pub returns-clause-is : goal.returns-clause-is
returns-clause-is c = λ accepted options number state is belongs.
    let core = accepted.core in
    let run = c.args.self.now in
    let found = c.in_ok-begun.ensures.begun accepted state.feed (length (printed core state.feed)) is.live in
    let rows = subst (λ (t : ℤ). KeepsRows run.rows (first_read core t) state.feed) (sym c.begun.ensures.tick) is.rows in
    let kept = c.in_ok-kept.ensures.kept ∙ ap bare_kept is.kept_is in
    let left = c.in_ok-left.ensures accepted options.form state found.1 rows belongs kept in
    let same : to_z w64 (of_z w64 c.resume_tick.result) ≡ c.resume_tick.result = search rules in
    let asked = c.watermark_options.ensures ∙ ap watermark_options is.form_is in
    let from = same ∙ c.resume_tick.ensures.all accepted state.feed found.1 in
    let shown = c.start_of-shown.ensures (begun core state.feed) (found.0 refl) in
    λ k. record {
      state = record {
        query = c.args.query;
        progress = record {
          options = asked k;
          bytes = c.args.bytes;
          lines = is.number_is k;
          written = c.args.written;
          from = from k;
          shown = shown k;
          finished = left.finished k;
          greatest = left.greatest k;
          latest = left.latest k;
        };
        inputs = left.inputs k;
      };
      kept = left.kept k;
    }

pub returns-clause-goes_on : goal.returns-clause-goes_on
returns-clause-goes_on c = λ accepted options number state is. record {
  live = (c.in_ok-begun.ensures.begun accepted state.feed (length (printed accepted.core state.feed)) is.live).1;
  kept_is = is.kept_is;
  form_is = is.form_is;
  number_is = is.number_is;
  display_is = is.display_is;
  strict_is = is.strict_is;
  rows = subst (λ (t : ℤ). KeepsRows c.args.self.now.rows (first_read accepted.core t) state.feed) (sym c.begun.ensures.tick) is.rows;
}

pub returns-clause-fits : goal.returns-clause-fits
returns-clause-fits c = λ accepted options number state is belongs.
    let core = accepted.core in
    let run = c.args.self.now in
    let found = c.in_ok-begun.ensures.begun accepted state.feed (length (printed core state.feed)) is.live in
    let rows = subst (λ (t : ℤ). KeepsRows run.rows (first_read core t) state.feed) (sym c.begun.ensures.tick) is.rows in
    let kept = c.in_ok-kept.ensures.kept ∙ ap bare_kept is.kept_is in
    let left = c.in_ok-left.ensures accepted options.form state found.1 rows belongs kept in
    let of = subst (λ (k : TextKept). IsOfForm options.form k) (sym is.kept_is) belongs.of_form in
    let fits = c.in_ok-kept.ensures.fits (subst (λ (f : FeedForm). IsOfForm f (kept_of run.text)) (sym is.form_is) of) in
    subst AreResumable (sym left.kept) (kept-resumable (form_of run.text) state.kept _ kept fits)
