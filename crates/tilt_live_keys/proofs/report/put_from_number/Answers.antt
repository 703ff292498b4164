use Rattle.std.specs.Fmt.{decimal}
use Rattle.tilt_outside.proofs.Puts.{puts-short}
use Rattle.tilt_live_keys.specs.Report.{key_reason}
use Rattle.tilt_live_keys.proofs.report.put_from_number.Goals as goal

pub returns-in_err-put_number : goal.returns-in_err-put_number
returns-in_err-put_number g c =
    puts-short _ _ _ _ g.met.E.Sink.takes_fewer _ _ (decimal c.args.number) (key_reason c.args.why) _ c.from_residual.result c.from_residual.ensures.0 c.in_err-put_number.ensures
