use Rattle.std.proofs.Common.{◌++◌, codes}
use Rattle.std.specs.Fmt.{decimal}
use Rattle.tilt_outside.proofs.Puts.{puts-short, puts-then}
use Rattle.tilt_reading_text.specs.Report.{bad_reason}
use Rattle.tilt_reading_text.proofs.report.put_from_code.Goals as goal

pub returns-in_err-put : goal.returns-in_err-put
returns-in_err-put g c =
    rw (← c.bad_front.ensures) (puts-short _ _ _ _ g.met.E.Sink.takes_fewer _ _ c.bad_front.result.now (codes " line " ++ (decimal c.args.number ++ bad_reason c.args.why)) _
    c.from_residual.result c.from_residual.ensures.0 c.in_err-put.ensures)

pub returns : goal.returns
returns g c =
    rw (← c.bad_front.ensures) (puts-then _ _ _ _ _ _ _ c.bad_front.result.now (codes " line " ++ (decimal c.args.number ++ bad_reason c.args.why)) _
    c.in_ok-put.ensures c.put_from_line.ensures)
