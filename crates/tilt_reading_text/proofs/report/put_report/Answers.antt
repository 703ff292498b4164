use Rattle.std.proofs.Common.{◌++◌, codes}
use Rattle.std.specs.Fmt.{decimal}
use Rattle.tilt_outside.proofs.Puts.{puts-short}
use Rattle.tilt_reading_text.specs.Report.{bad_front, bad_reason}
use Rattle.tilt_reading_text.proofs.report.put_report.Goals as goal

pub returns-in_err-put : goal.returns-in_err-put
returns-in_err-put g c =
    puts-short _ _ _ _ g.met.E.Sink.takes_fewer _ _ (codes "tilt: ") (bad_front c.args.why ++ (codes " line " ++ (decimal c.args.number ++ bad_reason c.args.why))) _
    c.from_residual.result c.from_residual.ensures.0 c.in_err-put.ensures
