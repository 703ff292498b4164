use Rattle.std.proofs.Common.{◌≡◌, ◌∙◌, sym, ap, false, Some, Err, refl}
use Rattle.std.proofs.lemmas.Result.{err_from_is_err_and}
use Rattle.tilt_feed_form.specs.Report.{report_of}
use Rattle.tilt_feed_form.specs.Said.{ends, line_fault, stops}
use Rattle.tilt_input_state.specs.Resume.{first_read}
use Rattle.tilt_live.specs.Lives.{tick_of_live}
use Rattle.tilt_live_run.proofs.Lines.{bad-stops, line-stopped, line-taken}
use Rattle.tilt_live_run.proofs.Pieces.{line-refused}
use Rattle.tilt_serving.proofs.Reporting.{reported-none}
use Rattle.tilt_serving.specs.Reported.{Reported}
use Rattle.tilt_live_run.proofs.line_run.LineRun.take.Goals.{in-Some+in_ok-report_bad, in_default}
use Rattle.tilt_live_run.proofs.line_run.LineRun.take.Goals as goal

pub returns-in_err-why-clause-taken : goal.returns-in_err-why-clause-taken
returns-in_err-why-clause-taken g c = λ accepted options number state given is.
    let p = err_from_is_err_and c.from_residual.result c.from_residual.ensures.1 in
    line-refused _ _ _ accepted.core options _ _ _ number state c.args.line.now c.from_residual.result (p.1 ∙ ap Err p.2)

pub returns-in_err-report_bad-clause-taken : goal.returns-in_err-report_bad-clause-taken
returns-in_err-report_bad-clause-taken g c = λ accepted options number state given is.
    let taken = rw (c.in-Some.is, is.form_is, is.number_is) at (c.in_ok-why.ensures.taken accepted state given is.live is.kept_is) in
    let rest = c.in_ok-why.ensures.rest in
    let stop = c.in_err-report_bad.ensures.result in
    let p = err_from_is_err_and c.from_residual-in_err-report_bad.result c.from_residual-in_err-report_bad.ensures.1 in
    let bad : line_fault options.form accepted.core.inputs state.kept number c.args.line.now ≡ Some c.in-Some.why = sym taken.0 in
    line-stopped _ _ _ accepted.core options _ _ _ _ number state c.args.line.now c.in-Some.why _ (p.1 ∙ ap Err (p.2 ∙ stop.0)) bad
    (bad-stops accepted.core options number state c.args.line.now c.in-Some.why _ _ bad taken.1 (rest.2 ∙ is.strict_is) ∙ stop.1)
    (rw (rest.0, is.number_is) at c.in_err-report_bad.ensures.reported) taken.2

pub returns-clause-taken : goal.returns-clause-taken
returns-clause-taken g c = λ accepted options number state given is.
    let taken = rw (is.number_is, is.form_is) at (c.in_ok-why.ensures.taken accepted state given is.live is.kept_is) in
    let rest = c.in_ok-why.ensures.rest in
    let goes : stops options.strict options.form accepted.core.inputs state number c.args.line.now ≡ false =
    elim c.match-branch-2.branch [
      | in-Some+in_ok-report_bad w ↦
          bad-stops accepted.core options number state c.args.line.now w.in-Some.why _ _ (sym taken.0 ∙ w.in-Some.is) taken.1 (rest.2 ∙ is.strict_is)
          ∙ w.in_ok-report_bad.ensures.result
      | in_default w ↦ ap (ends options.strict state.kept) (sym taken.0 ∙ w.in_default.is)
    ] in
    let told : Reported g.E.Sink.tells g.E.Sink.written g.E.Sink.faults c.args.err.now c.match-branch-2.err
    (report_of number (line_fault options.form accepted.core.inputs state.kept number c.args.line.now)) =
    elim c.match-branch-2.branch [
      | in-Some+in_ok-report_bad w ↦
          rw (w.err-is, sym taken.0 ∙ w.in-Some.is) (rw (rest.0, is.number_is) at w.in_ok-report_bad.ensures.reported)
      | in_default w ↦ rw (w.err-is, sym taken.0 ∙ w.in_default.is) (reported-none _ _ _ _)
    ] in
    let rows = rw (is.number_is, is.form_is, ← c.in_ok-why.ensures.tick)
    at (c.in_ok-why.ensures.rows accepted state given (first_read accepted.core (tick_of_live c.args.self.now.live)) is.live is.kept_is is.rows) in
    line-taken _ _ _ accepted.core options _ _ _ _ number state c.args.line.now goes told
    (record {
      live = taken.2;
      kept_is = taken.1;
      form_is = c.in_ok-why.ensures.form ∙ is.form_is;
      number_is = c.saturating_add-self.ensures ∙ rw (rest.0, is.number_is) refl;
      display_is = rest.1 ∙ is.display_is;
      strict_is = rest.2 ∙ is.strict_is;
      rows = rows;
    })
