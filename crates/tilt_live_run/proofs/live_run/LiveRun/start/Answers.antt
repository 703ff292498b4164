use Rattle.std.proofs.Common.{◌∙◌, ap, Err}
use Rattle.std.proofs.lemmas.Result.{err_from_is_err_and}
use Rattle.tilt_feed_form.specs.Machine.{form_of, kept_of}
use Rattle.tilt_live_run.specs.declared.display.Display.{Display}
use Rattle.tilt_live_run.proofs.Adding.{adds-again, adds-value}
use Rattle.tilt_live_run.proofs.KeepingRows.{needs-state}
use Rattle.tilt_live_run.proofs.live_run.LiveRun.start.Goals as goal

pub returns-in_err-begin-clause-adds : goal.returns-in_err-begin-clause-adds
returns-in_err-begin-clause-adds g c =
    let p = err_from_is_err_and c.from_residual-in_err-begin.result c.from_residual-in_err-begin.ensures.1 in
    let made = c.in_ok-run.ensures.is in
    adds-again _ _ _ _ c.in_err-begin.field-0.0 c.from_residual-in_err-begin.result (p.1 ∙ ap Err p.2)
    (rw made.display_is at (c.in_err-begin.ensures.adds c.args.accepted made.live c.in_ok-run.ensures.shown))

pub returns-clause-adds : goal.returns-clause-adds
returns-clause-adds g c =
    let made = c.in_ok-run.ensures.is in
    adds-value _ _ _ _ _ _ (rw made.display_is at (c.in_ok-begin.ensures.adds c.args.accepted made.live c.in_ok-run.ensures.shown))

pub returns-clause-is : goal.returns-clause-is
returns-clause-is g c =
    let made = c.in_ok-run.ensures.is in
    let rest = c.begin.ensures.rest in
    record {
      after = record {
        line_run = record {
          live = c.in_ok-begin.ensures.goes_on c.args.accepted made.live;
          kept_is = ap kept_of rest.3 ∙ made.kept_is;
          form_is = ap form_of rest.3 ∙ made.form_is;
          number_is = rest.0 ∙ made.number_is;
          display_is = rest.1 ∙ made.display_is;
          strict_is = rest.2 ∙ made.strict_is;
          rows = c.in_ok-begin.ensures.rows c.args.accepted made.live made.rows;
        };
        pending = c.new-2.ensures.items;
      };
      begun = λ on. c.in_ok-begin.ensures.begun c.args.accepted made.live (ap (λ (display : Display). display.with_begun) made.display_is ∙ on);
    }

pub returns-clause-keeps : goal.returns-clause-keeps
returns-clause-keeps g c =
    needs-state c.args.keep _ (c.begin.ensures.keeps ∙ c.in_ok-run.ensures.keeps)
