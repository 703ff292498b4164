use Rattle.std.proofs.Common.{◌++◌}
use Rattle.std.specs.Fmt.{decimal}
use Rattle.tilt_outside.proofs.Puts.{puts-short, puts-then}
use Rattle.tilt_unit_load.specs.UnitReport.{back_of, front_of, number_in}
use Rattle.tilt_unit_load.proofs.line.put_fault.Goals as goal

pub returns-in_err-put : goal.returns-in_err-put
returns-in_err-put g c =
    let fault = c.args.fault in
    let cut = rw c.front_of.ensures at c.in_err-put.ensures in
    puts-short _ _ _ _ g.met.E.Sink.takes_fewer _ _ (front_of fault) (decimal (number_in fault) ++ back_of fault) _ c.from_residual.result
    c.from_residual.ensures.0 cut

pub returns : goal.returns
returns g c =
    let fault = c.args.fault in
    let first = rw c.front_of.ensures at c.in_ok-put.ensures in
    puts-then _ _ _ _ _ _ _ (front_of fault) (decimal (number_in fault) ++ back_of fault) _ first c.put_from_number.ensures
