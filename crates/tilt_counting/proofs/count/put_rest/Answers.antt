use Rattle.std.proofs.Common.{codes}
use Rattle.std.specs.Fmt.{decimal}
use Rattle.tilt_outside.proofs.Puts.{puts-short, puts-then}
use Rattle.tilt_counting.proofs.count.put_rest.Goals as goal

pub returns-in_err-put_number : goal.returns-in_err-put_number
returns-in_err-put_number g c =
    puts-short _ _ _ _ g.met.E.Sink.takes_fewer _ _ (decimal c.args.number) (codes "\n") _ c.from_residual.result c.from_residual.ensures.0 c.in_err-put_number.ensures

pub returns : goal.returns
returns g c = puts-then _ _ _ _ _ _ _ (decimal c.args.number) (codes "\n") _ c.in_ok-put_number.ensures c.put.ensures
