use Rattle.std.proofs.Common.{◌≡◌, ◌∙◌, Some, ap, subst, sym}
use Rattle.tilt_feed_form.specs.Said.{TextKept}
use Rattle.tilt_live_run.proofs.Leaving.{readings-are, readings-go-on, rows-kept}
use Rattle.tilt_live_run.specs.Left.{each_left, kept_beside, readings_kept, watermark_options}
use Rattle.tilt_watermarks.specs.Laws.{IsKeptOf}
use Rattle.tilt_watermarks.specs.Steps.{Kept}
use Rattle.tilt_live_run.proofs.line_run.LineRun.left.Goals as goal

pub returns-in_ok-inputs_left-in-Rows : goal.returns-in_ok-inputs_left-in-Rows
returns-in_ok-inputs_left-in-Rows c = λ accepted form state is keeps belongs kept.
    let core = accepted.core in
    let feed = state.feed in
    let lateness = (watermark_options form).lateness in
    let same = rows-kept c.in-Rows.kept state.kept (sym c.in-Rows.is ∙ kept) in
    let beside : c.in-Rows.kept ≡ kept_beside state.kept feed = ap (λ (k : TextKept). kept_beside k feed) same in
    let own = subst (λ (k : Kept). IsKeptOf lateness k feed) (sym beside) belongs.kept in
    record {
      inputs = c.in_ok-inputs_left-in-Rows.ensures accepted feed lateness is keeps own
          ∙ ap (λ (k : Kept). each_left core feed feed.inputs k.inputs) beside;
      finished = ap (λ (k : Kept). k.finished) c.kept.view_is ∙ own.finished;
      greatest = ap (λ (k : Kept). k.greatest) (c.kept.view_is ∙ beside);
      latest = ap (λ (k : Kept). k.latest) (c.kept.view_is ∙ beside);
      kept = ap readings_kept same;
    }

pub returns-in_ok-inputs_known-in-Readings : goal.returns-in_ok-inputs_known-in-Readings
returns-in_ok-inputs_known-in-Readings c = λ accepted form state is keeps belongs kept.
    let core = accepted.core in
    let feed = state.feed in
    let found = readings-are c.in-Readings.kept state.kept (sym c.in-Readings.is ∙ kept) in
    let going = readings-go-on form found.0 state.kept feed found.1 belongs.of_form belongs.goes_on in
    record {
      inputs = c.in_ok-inputs_known-in-Readings.ensures accepted feed is keeps going
          ∙ ap (λ (k : TextKept). each_left core feed feed.inputs (kept_beside k feed).inputs) found.1;
      finished = sym going;
      greatest = ap (λ (k : TextKept). (kept_beside k feed).greatest) found.1;
      latest = ap (λ (k : TextKept). (kept_beside k feed).latest) found.1;
      kept = ap Some found.2 ∙ ap readings_kept found.1;
    }
