use Rattle.std.proofs.Common.{◌∙◌, ap, Err, sym}
use Rattle.std.proofs.lemmas.List.{append-nil}
use Rattle.std.proofs.lemmas.Result.{err_from_is_err_and}
use Rattle.tilt_live_run.proofs.Adding.{adds-again, adds-short, adds-then, adds-value}
use Rattle.tilt_live_run.proofs.line_run.LineRun.write_news.Goals as goal

pub returns-in_err-show_final-clause-adds : goal.returns-in_err-show_final-clause-adds
returns-in_err-show_final-clause-adds g c = λ accepted feed given is.
    let p = err_from_is_err_and c.from_residual.result c.from_residual.ensures.1 in
    adds-short _ _ _ _ _ c.in_err-show_final.field-0.0 c.from_residual.result (p.1 ∙ ap Err p.2) c.in_err-show_final.ensures.no_bad_line
    (c.in_err-show_final.ensures.shown accepted feed given is)

pub returns-in_err-self-clause-adds : goal.returns-in_err-self-clause-adds
returns-in_err-self-clause-adds g c = λ accepted feed given is.
    let p = err_from_is_err_and c.from_residual-in_err-self.result c.from_residual-in_err-self.ensures.1 in
    let shown = c.in_ok-show_final.ensures.shown accepted feed given is in
    let later = c.in_ok-show_final.ensures.goes_on accepted feed given is in
    rw c.if-self.true (adds-then _ _ _ _ _ _ _ c.from_residual-in_err-self.result shown
    (adds-again _ _ _ _ c.in_err-self.field-0.0 c.from_residual-in_err-self.result (p.1 ∙ ap Err p.2) (c.in_err-self.ensures.shown accepted feed later)))

pub returns-in_ok-self-clause-adds : goal.returns-in_ok-self-clause-adds
returns-in_ok-self-clause-adds g c = λ accepted feed given is.
    let shown = c.in_ok-show_final.ensures.shown accepted feed given is in
    let later = c.in_ok-show_final.ensures.goes_on accepted feed given is in
    rw c.if-self.true (adds-then _ _ _ _ _ _ _ _ shown (adds-value _ _ _ _ _ (tt {0}) (c.in_ok-self.ensures.shown accepted feed later)))

pub returns-else-self-clause-adds : goal.returns-else-self-clause-adds
returns-else-self-clause-adds g c = λ accepted feed given is.
    rw (c.if-self.false, append-nil) (c.in_ok-show_final.ensures.shown accepted feed given is)

pub returns-in_ok-self-clause-goes_on : goal.returns-in_ok-self-clause-goes_on
returns-in_ok-self-clause-goes_on g c = λ accepted feed given is.
    (c.in_ok-self.ensures.goes_on accepted feed (c.in_ok-show_final.ensures.goes_on accepted feed given is)).1

pub returns-in_ok-self-clause-begun : goal.returns-in_ok-self-clause-begun
returns-in_ok-self-clause-begun g c = λ accepted feed given is _.
    (c.in_ok-self.ensures.goes_on accepted feed (c.in_ok-show_final.ensures.goes_on accepted feed given is)).0

pub returns-else-self-clause-begun : goal.returns-else-self-clause-begun
returns-else-self-clause-begun g c = λ accepted feed given is yes. absurd (cc (sym c.if-self.false ∙ yes))
