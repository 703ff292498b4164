use Rattle.std.proofs.Common.{◌≡◌, ◌∙◌, sym, length, vec_len, rules}
use Rattle.std.proofs.Math.Bool.{and-false}
use Rattle.tilt_feed_text.specs.Split.{unfinished}
use Rattle.tilt_serving.proofs.Reporting.{reported-none}
use Rattle.tilt_live_run.proofs.Running.{none-kept, some-kept, strict-same}
use Rattle.tilt_live_run.proofs.live_run.LiveRun.end.Goals as goal

pub returns-then-is_empty-clause-reports : goal.returns-then-is_empty-clause-reports
returns-then-is_empty-clause-reports g c = λ accepted options bytes is.
    let stored : vec_len c.args.self.now.pending ≡ length c.args.self.now.pending.items = search rules in
    let none = rw stored at (sym c.is_empty.ensures ∙ c.if-is_empty.true) in
    rw (none-kept (unfinished bytes) c.args.self.now.pending.items is.after.pending none) (reported-none _ _ _ _)

pub returns-then-is_empty-clause-stops : goal.returns-then-is_empty-clause-stops
returns-then-is_empty-clause-stops g c = λ accepted options bytes is.
    let stored : vec_len c.args.self.now.pending ≡ length c.args.self.now.pending.items = search rules in
    let none = rw stored at (sym c.is_empty.ensures ∙ c.if-is_empty.true) in
    rw (none-kept (unfinished bytes) c.args.self.now.pending.items is.after.pending none) (and-false options.strict)

pub returns-clause-reports : goal.returns-clause-reports
returns-clause-reports g c = λ accepted options bytes is.
    let stored : vec_len c.args.self.now.pending ≡ length c.args.self.now.pending.items = search rules in
    let some = rw stored at (sym c.is_empty.ensures ∙ c.if-is_empty.false) in
    rw (some-kept (unfinished bytes) c.args.self.now.pending.items is.after.pending some)
    (rw (is.after.line_run.number_is, is.after.line_run.form_is) at c.report_end.ensures.reported)

pub returns-clause-stops : goal.returns-clause-stops
returns-clause-stops g c = λ accepted options bytes is.
    let stored : vec_len c.args.self.now.pending ≡ length c.args.self.now.pending.items = search rules in
    let some = rw stored at (sym c.is_empty.ensures ∙ c.if-is_empty.false) in
    rw (some-kept (unfinished bytes) c.args.self.now.pending.items is.after.pending some)
    (strict-same options.strict c.report_end.result (rw is.after.line_run.strict_is at c.report_end.ensures.result))
