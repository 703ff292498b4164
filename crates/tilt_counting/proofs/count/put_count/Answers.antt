use Rattle.std.proofs.Common.{◌++◌, codes}
use Rattle.std.specs.Fmt.{decimal}
use Rattle.tilt_outside.proofs.Puts.{puts-short, puts-then}
use Rattle.tilt_counting.proofs.count.put_count.Goals as goal

pub returns-in_err-put : goal.returns-in_err-put
returns-in_err-put g c =
    puts-short _ _ _ _ g.met.E.Sink.takes_fewer _ _ (codes "tilt: 121 results left 64 bits: ") (decimal c.args.count ++ codes "\n") _
    c.from_residual.result c.from_residual.ensures.0 c.in_err-put.ensures

pub returns : goal.returns
returns g c =
    puts-then _ _ _ _ _ _ _ (codes "tilt: 121 results left 64 bits: ") (decimal c.args.count ++ codes "\n") _ c.in_ok-put.ensures c.put_rest.ensures
