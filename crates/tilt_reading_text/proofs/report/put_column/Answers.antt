use Rattle.tilt_outside.proofs.Puts.{puts-short}
use Rattle.tilt_reading_text.specs.Report.{column_text}
use Rattle.tilt_reading_text.proofs.report.put_column.Goals as goal

pub returns-in_err-put : goal.returns-in_err-put
returns-in_err-put g c =
    puts-short _ _ _ _ g.met.E.Sink.takes_fewer _ _ c.args.text.now (column_text c.args.column) _ c.from_residual.result c.from_residual.ensures.0 c.in_err-put.ensures
