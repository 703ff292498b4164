use Rattle.std.proofs.Common.{◌++◌, ◌∙◌, sym, ap, append-nil}
use Rattle.tilt_feed_form.proofs.Saying.{reading-bad}
use Rattle.tilt_reading_text.specs.Machine.{form_of, text_kept}
use Rattle.tilt_reading_text.specs.Said.{TextStep}
use Rattle.tilt_feed_form.proofs.reading_lines.ReadingLines.take.Goals as goal

pub returns-in-Err-Bad-clause-kept : goal.returns-in-Err-Bad-clause-kept
returns-in-Err-Bad-clause-kept c =
    let text = c.args.self.now.text in
    let bad = rw c.in-Err-Bad.field-0-is at c.in-Err-Bad.ensures.result in
    let same = reading-bad (form_of text) c.args.line.now (text_kept text) _ bad in
    c.in-Err-Bad.ensures.kept ∙ sym (ap (λ (step : TextStep). step.kept) same)

pub returns-in-Err-Bad-clause-events : goal.returns-in-Err-Bad-clause-events
returns-in-Err-Bad-clause-events c =
    let text = c.args.self.now.text in
    let before = c.args.events.now.items in
    let bad = rw c.in-Err-Bad.field-0-is at c.in-Err-Bad.ensures.result in
    let same = reading-bad (form_of text) c.args.line.now (text_kept text) _ bad in
    c.in-Err-Bad.ensures.events ∙ sym (append-nil before) ∙ sym (ap (λ (step : TextStep). before ++ step.events) same)
