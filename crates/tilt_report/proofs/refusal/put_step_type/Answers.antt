use Rattle.std.proofs.Common.{◌++◌, codes}
use Rattle.std.specs.Fmt.{decimal}
use Rattle.tilt_outside.proofs.Puts.{puts-short}
use Rattle.tilt_report.proofs.refusal.put_step_type.Goals as goal

pub returns-in_err-put_counted : goal.returns-in_err-put_counted
returns-in_err-put_counted g c =
    let cut = rw c.from.ensures at c.in_err-put_counted.ensures in
    puts-short _ _ _ _ g.met.E.Sink.takes_fewer _ _ (codes "54 step " ++ decimal c.args.step) (codes ": type") _ c.from_residual.result c.from_residual.ensures.0 cut
