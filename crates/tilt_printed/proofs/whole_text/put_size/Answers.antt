use Rattle.std.proofs.Common.{codes}
use Rattle.std.specs.Fmt.{decimal}
use Rattle.tilt_outside.proofs.Puts.{puts-then, puts-short}
use Rattle.tilt_printed.proofs.whole_text.put_size.Goals as goal

pub returns-in_err-put : goal.returns-in_err-put
returns-in_err-put g c =
    puts-short _ _ _ _ g.met.O.Sink.takes_fewer _ _ (codes " ") (decimal c.args.size) _ c.from_residual.result c.from_residual.ensures.0 c.in_err-put.ensures

pub returns : goal.returns
returns g c =
    let number = rw (c.as_bytes.ensures.value, c.format.ensures.text) at c.put-2.ensures in
    puts-then _ _ _ _ _ _ _ (codes " ") (decimal c.args.size) _ c.in_ok-put.ensures number
