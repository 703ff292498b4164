use Rattle.std.proofs.Common.{◌++◌}
use Rattle.std.specs.Fmt.{decimal}
use Rattle.tilt_outside.proofs.Puts.{puts-short, puts-then}
use Rattle.tilt_live_keys.specs.Report.{key_reason}
use Rattle.tilt_live_keys.proofs.report.put_key_fault.Goals as goal

pub returns-in_err-put : goal.returns-in_err-put
returns-in_err-put g c =
    rw (← c.key_front.ensures) (puts-short _ _ _ _ g.met.E.Sink.takes_fewer _ _ c.key_front.result.now (decimal c.args.number ++ key_reason c.args.why) _
    c.from_residual.result c.from_residual.ensures.0 c.in_err-put.ensures)

pub returns : goal.returns
returns g c =
    rw (← c.key_front.ensures) (puts-then _ _ _ _ _ _ _ c.key_front.result.now (decimal c.args.number ++ key_reason c.args.why) _
    c.in_ok-put.ensures c.put_from_number.ensures)
