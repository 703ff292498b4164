use Rattle.std.proofs.Common.{◌++◌, codes}
use Rattle.std.specs.List.{flat_map}
use Rattle.tilt_outside.proofs.Puts.{puts-then, puts-short}
use Rattle.tilt_printed.specs.Sizes.{size_text}
use Rattle.tilt_printed.proofs.whole_text.put_line.Goals as goal

pub returns-in_err-put : goal.returns-in_err-put
returns-in_err-put g c =
    puts-short _ _ _ _ g.met.O.Sink.takes_fewer _ _ (codes "parts") (flat_map size_text c.args.sizes.now ++ codes "\n") _ c.from_residual.result c.from_residual.ensures.0 c.in_err-put.ensures

pub returns-in_err-put_sizes : goal.returns-in_err-put_sizes
returns-in_err-put_sizes g c =
    puts-then _ _ _ _ _ _ _ (codes "parts") (flat_map size_text c.args.sizes.now ++ codes "\n") _ c.in_ok-put.ensures
    (puts-short _ _ _ _ g.met.O.Sink.takes_fewer _ _ (flat_map size_text c.args.sizes.now) (codes "\n") _ c.from_residual-in_err-put_sizes.result
    c.from_residual-in_err-put_sizes.ensures.0 c.in_err-put_sizes.ensures)

pub returns : goal.returns
returns g c =
    puts-then _ _ _ _ _ _ _ (codes "parts") (flat_map size_text c.args.sizes.now ++ codes "\n") _ c.in_ok-put.ensures
    (puts-then _ _ _ _ _ _ _ (flat_map size_text c.args.sizes.now) (codes "\n") _ c.in_ok-put_sizes.ensures c.put-2.ensures)
