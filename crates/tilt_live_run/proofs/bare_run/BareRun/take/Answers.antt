use Rattle.std.proofs.Common.{◌∙◌, ap, length, Err}
use Rattle.std.proofs.lemmas.Result.{err_from_is_err_and}
use Rattle.tilt_feed.specs.Printed.{printed}
use Rattle.tilt_feed_form.specs.Said.{after_line}
use Rattle.tilt_feed_text.specs.Said.{number_after}
use Rattle.tilt_live_run.specs.Bare.{state_of}
use Rattle.tilt_live_run.specs.declared.display.Display.{Display}
use Rattle.tilt_live_run.specs.declared.stop.Stop.TheVariants.{OutOfMemory}
use Rattle.tilt_live_run.proofs.Adding.{adds-again, adds-stopped, adds-value}
use Rattle.tilt_live_run.proofs.Baring.{bare-live, bare-more, state-push}
use Rattle.tilt_live_run.proofs.Lines.{shown-news}
use Rattle.tilt_live_run.proofs.bare_run.BareRun.take.Goals as goal

pub returns-in_err-why-clause-adds : goal.returns-in_err-why-clause-adds
returns-in_err-why-clause-adds g c = λ accepted options lines is.
    let p = err_from_is_err_and c.from_residual.result c.from_residual.ensures.1 in
    adds-stopped _ _ _ OutOfMemory c.from_residual.result (p.1 ∙ ap Err p.2) (λ e. cc e) (λ e. cc e)

pub returns-in_err-show-clause-adds : goal.returns-in_err-show-clause-adds
returns-in_err-show-clause-adds g c = λ accepted options lines is.
    let core = accepted.core in
    let before = state_of options core lines in
    let after = after_line options.form core.inputs (number_after 0 lines) c.args.line.now before in
    let given = length (printed core before.feed) in
    let p = err_from_is_err_and c.from_residual-in_err-show.result c.from_residual-in_err-show.ensures.1 in
    let taken = c.in_ok-why.ensures.taken accepted options (number_after 0 lines) before given is.line_run in
    let kept = c.in_ok-why.ensures.kept in
    let adds = rw (kept.1, is.line_run.display_is, kept.0) at (c.in_err-show.ensures.adds accepted after.feed given taken.1.live) in
    rw (state-push options core lines c.args.line.now)
    (adds-again _ _ _ _ c.in_err-show.field-0.0 c.from_residual-in_err-show.result (p.1 ∙ ap Err p.2)
    (rw (shown-news options.display core before.feed after.feed c.args.self.now.run.shown is.begun) at adds))

pub returns-clause-adds : goal.returns-clause-adds
returns-clause-adds g c = λ accepted options lines is.
    let core = accepted.core in
    let before = state_of options core lines in
    let after = after_line options.form core.inputs (number_after 0 lines) c.args.line.now before in
    let given = length (printed core before.feed) in
    let taken = c.in_ok-why.ensures.taken accepted options (number_after 0 lines) before given is.line_run in
    let kept = c.in_ok-why.ensures.kept in
    let adds = rw (kept.1, is.line_run.display_is, kept.0) at (c.in_ok-show.ensures.adds accepted after.feed given taken.1.live) in
    rw (state-push options core lines c.args.line.now)
    (adds-value _ _ _ _ _ _ (rw (shown-news options.display core before.feed after.feed c.args.self.now.run.shown is.begun) at adds))

pub returns-clause-goes_on : goal.returns-clause-goes_on
returns-clause-goes_on g c = λ accepted options lines is.
    let core = accepted.core in
    let before = state_of options core lines in
    let after = after_line options.form core.inputs (number_after 0 lines) c.args.line.now before in
    let given = length (printed core before.feed) in
    let taken = c.in_ok-why.ensures.taken accepted options (number_after 0 lines) before given is.line_run in
    let live = taken.1.live in
    bare-more _ _ accepted options lines c.args.line.now given taken.1 (c.in_ok-show.ensures.goes_on accepted after.feed given live)
    (λ yes. c.in_ok-show.ensures.begun accepted after.feed given live (ap (λ (display : Display). display.with_begun) taken.1.display_is ∙ yes))
    c.show.ensures.rest (c.in_ok-show.ensures.rows accepted after.feed given live taken.1.rows)

pub returns-clause-bad : goal.returns-clause-bad
returns-clause-bad g c = λ accepted options lines is.
    let before = state_of options accepted.core lines in
    (c.in_ok-why.ensures.taken accepted options (number_after 0 lines) before (length (printed accepted.core before.feed)) is.line_run).0

pub show-requires : goal.show-requires
show-requires g c = record { live = c.in_ok-why.ensures.live (bare-live c.args.self.now.run.live _ _ _ c.requires.3.line_run.live) }
