use Rattle.std.specs.Fmt.{decimal}
use Rattle.tilt_outside.proofs.Puts.{puts-short, puts-then}
use Rattle.tilt_unit_load.specs.UnitReport.{back_of, number_in}
use Rattle.tilt_unit_load.proofs.line.put_from_number.Goals as goal

pub returns-in_err-put_number : goal.returns-in_err-put_number
returns-in_err-put_number g c =
    let fault = c.args.fault in
    let cut = rw c.number_in.ensures at c.in_err-put_number.ensures in
    puts-short _ _ _ _ g.met.E.Sink.takes_fewer _ _ (decimal (number_in fault)) (back_of fault) _ c.from_residual.result c.from_residual.ensures.0 cut

pub returns : goal.returns
returns g c =
    let fault = c.args.fault in
    let first = rw c.number_in.ensures at c.in_ok-put_number.ensures in
    let last = rw c.back_of.ensures at c.put.ensures in
    puts-then _ _ _ _ _ _ _ (decimal (number_in fault)) (back_of fault) _ first last
