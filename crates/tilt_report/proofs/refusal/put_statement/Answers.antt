use Rattle.std.proofs.Common.{◌++◌, ◌∙◌}
use Rattle.std.specs.Fmt.{decimal}
use Rattle.tilt_outside.proofs.Puts.{puts-then, puts-short}
use Rattle.tilt_report.specs.Report.{statement_front, statement_words}
use Rattle.tilt_report.proofs.refusal.put_statement.Goals as goal

pub returns-in_err-put_counted : goal.returns-in_err-put_counted
returns-in_err-put_counted g c =
    let cut = rw (c.as_bytes.ensures.value ∙ c.front_of.ensures, c.from.ensures) at c.in_err-put_counted.ensures in
    puts-short _ _ _ _ g.met.E.Sink.takes_fewer _ _ (statement_front c.args.fault ++ decimal c.args.statement) (statement_words c.args.fault) _ c.from_residual.result c.from_residual.ensures.0 cut

pub returns : goal.returns
returns g c =
    let first = rw (c.as_bytes.ensures.value ∙ c.front_of.ensures, c.from.ensures) at c.in_ok-put_counted.ensures in
    let words = c.as_bytes-2.ensures.value ∙ c.words_of.ensures in
    rw (← words) (puts-then _ _ _ _ _ _ _ (statement_front c.args.fault ++ decimal c.args.statement) c.as_bytes-2.result.now _ first c.put_text.ensures)
