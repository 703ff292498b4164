use Rattle.std.proofs.Common.{codes}
use Rattle.std.specs.Fmt.{decimal}
use Rattle.tilt_outside.proofs.Puts.{puts-short}
use Rattle.tilt_feed_text.proofs.report.put_fields.Goals as goal

pub returns-in_err-put_number : goal.returns-in_err-put_number
returns-in_err-put_number g c =
    rw (← c.from.ensures) (puts-short _ _ _ _ g.met.E.Sink.takes_fewer _ _ (decimal c.from.result) (codes " fields\n") _ c.from_residual.result c.from_residual.ensures.0 c.in_err-put_number.ensures)
