use Rattle.tilt_outside.proofs.Puts.{puts-then, puts-short}
use Rattle.tilt_report.proofs.line.put_named.Goals as goal

pub returns-in_err-put_text : goal.returns-in_err-put_text
returns-in_err-put_text g c =
    puts-short _ _ _ _ g.met.E.Sink.takes_fewer _ _ c.args.text.now c.args.name.now _ c.from_residual.result c.from_residual.ensures.0 c.in_err-put_text.ensures

pub returns : goal.returns
returns g c = puts-then _ _ _ _ _ _ _ c.args.text.now c.args.name.now _ c.in_ok-put_text.ensures c.put_text-2.ensures
