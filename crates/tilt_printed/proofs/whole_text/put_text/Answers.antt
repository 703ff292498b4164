use Rattle.std.proofs.Common.{codes}
use Rattle.tilt_outside.proofs.Puts.{puts-then, puts-short}
use Rattle.tilt_stream.specs.Text.{lines_of}
use Rattle.tilt_printed.proofs.whole_text.put_text.Goals as goal

pub returns-in_err-put_header : goal.returns-in_err-put_header
returns-in_err-put_header g c =
    puts-short _ _ _ _ g.met.O.Sink.takes_fewer _ _ (codes "start,end,value\n") (lines_of c.args.list.now) _ c.from_residual.result c.from_residual.ensures.0 c.in_err-put_header.ensures

pub returns : goal.returns
returns g c = puts-then _ _ _ _ _ _ _ (codes "start,end,value\n") (lines_of c.args.list.now) _ c.in_ok-put_header.ensures c.put_rows.ensures
