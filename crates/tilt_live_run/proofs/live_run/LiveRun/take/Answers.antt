use Rattle.std.proofs.Common.{◌∙◌, sym, ap}
use Rattle.tilt_live_run.specs.declared.display.Display.{Display}
use Rattle.tilt_live_run.proofs.Newly.{piece-at_once}
use Rattle.tilt_live_run.proofs.live_run.LiveRun.take.Goals as goal

pub returns-then-not-self-clause-adds : goal.returns-then-not-self-clause-adds
returns-then-not-self-clause-adds g c = λ accepted options bytes is.
    rw (← piece-at_once options accepted.core is.after.line_run.live.running.valid.valid bytes c.args.piece.now
    (ap (λ (display : Display). display.with_begun) (sym is.after.line_run.display_is) ∙ c.if-not-self.true)) (c.step.ensures.stepped accepted options bytes is).adds

pub returns-then-not-self-clause-stops : goal.returns-then-not-self-clause-stops
returns-then-not-self-clause-stops g c = λ accepted options bytes is. (c.step.ensures.stepped accepted options bytes is).stops

pub returns-clause-adds : goal.returns-clause-adds
returns-clause-adds g c = λ accepted options bytes is. (c.take_lines.ensures.taken accepted options bytes is).adds

pub returns-clause-stops : goal.returns-clause-stops
returns-clause-stops g c = λ accepted options bytes is. (c.take_lines.ensures.taken accepted options bytes is).stops

pub returns-then-not-self-clause-reports : goal.returns-then-not-self-clause-reports
returns-then-not-self-clause-reports g c = λ accepted options bytes is. (c.step.ensures.stepped accepted options bytes is).reports

pub returns-then-not-self-clause-goes_on : goal.returns-then-not-self-clause-goes_on
returns-then-not-self-clause-goes_on g c = λ accepted options bytes is. (c.step.ensures.stepped accepted options bytes is).goes_on

pub returns-clause-reports : goal.returns-clause-reports
returns-clause-reports g c = λ accepted options bytes is. (c.take_lines.ensures.taken accepted options bytes is).reports

pub returns-clause-goes_on : goal.returns-clause-goes_on
returns-clause-goes_on g c = λ accepted options bytes is. (c.take_lines.ensures.taken accepted options bytes is).goes_on
