use Rattle.std.proofs.Common.{◌++◌, codes}
use Rattle.tilt_outside.proofs.Puts.{puts-short, puts-then}
use Rattle.tilt_live_app.proofs.named_line.put_line.Goals as goal

pub returns-in_err-put : goal.returns-in_err-put
returns-in_err-put g c =
    puts-short _ _ _ _ g.met.E.Sink.takes_fewer _ _ c.args.front.now (c.args.name.now ++ codes "\n") _ c.from_residual.result c.from_residual.ensures.0
    c.in_err-put.ensures

pub returns : goal.returns
returns g c = puts-then _ _ _ _ _ _ _ c.args.front.now (c.args.name.now ++ codes "\n") _ c.in_ok-put.ensures c.put_name.ensures
