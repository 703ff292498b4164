use Rattle.std.proofs.Common.{◌∙◌, ap, length, Err}
use Rattle.std.proofs.lemmas.Result.{err_from_is_err_and}
use Rattle.tilt_feed.specs.Feed.{empty_feed}
use Rattle.tilt_feed_form.specs.Machine.{form_of, kept_of}
use Rattle.tilt_live_run.specs.declared.display.Display.{Display}
use Rattle.tilt_live_run.proofs.Adding.{adds-again, adds-value}
use Rattle.tilt_live_run.proofs.bare_run.BareRun.start.Goals as goal

pub returns-in_err-show-clause-adds : goal.returns-in_err-show-clause-adds
returns-in_err-show-clause-adds g c =
    let p = err_from_is_err_and c.from_residual-in_err-show.result c.from_residual-in_err-show.ensures.1 in
    let made = c.in_ok-run.ensures.is in
    adds-again _ _ _ _ c.in_err-show.field-0.0 c.from_residual-in_err-show.result (p.1 ∙ ap Err p.2)
    (rw (made.display_is, c.in_ok-run.ensures.shown)
    at (c.in_err-show.ensures.adds c.args.accepted (empty_feed (length c.args.accepted.core.inputs)) 0 made.live))

pub returns-clause-adds : goal.returns-clause-adds
returns-clause-adds g c =
    let made = c.in_ok-run.ensures.is in
    adds-value _ _ _ _ _ _ (rw (made.display_is, c.in_ok-run.ensures.shown)
    at (c.in_ok-show.ensures.adds c.args.accepted (empty_feed (length c.args.accepted.core.inputs)) 0 made.live))

pub returns-clause-is : goal.returns-clause-is
returns-clause-is g c =
    let made = c.in_ok-run.ensures.is in
    let rest = c.show.ensures.rest in
    let feed = empty_feed (length c.args.accepted.core.inputs) in
    record {
      line_run = record {
        live = c.in_ok-show.ensures.goes_on c.args.accepted feed 0 made.live;
        kept_is = ap kept_of rest.3 ∙ made.kept_is;
        form_is = ap form_of rest.3 ∙ made.form_is;
        number_is = rest.0 ∙ made.number_is;
        display_is = rest.1 ∙ made.display_is;
        strict_is = rest.2 ∙ made.strict_is;
        rows = c.in_ok-show.ensures.rows c.args.accepted feed 0 made.live made.rows;
      };
      begun = λ on. c.in_ok-show.ensures.begun c.args.accepted feed 0 made.live (ap (λ (display : Display). display.with_begun) made.display_is ∙ on);
    }
