use Rattle.std.proofs.Common.{◌++◌, codes}
use Rattle.std.specs.Fmt.{decimal}
use Rattle.tilt_outside.proofs.Puts.{puts-short}
use Rattle.tilt_feed_text.proofs.report.put_field_count.Goals as goal

pub returns-in_err-put : goal.returns-in_err-put
returns-in_err-put g c =
    puts-short _ _ _ _ g.met.E.Sink.takes_fewer _ _ (codes ": not ") (decimal c.args.expected ++ codes " fields\n") _ c.from_residual.result c.from_residual.ensures.0 c.in_err-put.ensures
