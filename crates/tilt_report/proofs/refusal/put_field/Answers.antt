use Rattle.std.proofs.Common.{◌++◌, codes, append_assoc}
use Rattle.std.specs.Fmt.{decimal}
use Rattle.tilt_outside.proofs.Puts.{puts-short}
use Rattle.tilt_report.proofs.refusal.put_field.Goals as goal

pub returns-in_err-put_counted : goal.returns-in_err-put_counted
returns-in_err-put_counted g c =
    let cut = rw c.from.ensures at c.in_err-put_counted.ensures in
    rw (append_assoc (codes ": bad field " ++ decimal c.args.field) (codes " in row ") (decimal c.args.row))
    (puts-short _ _ _ _ g.met.E.Sink.takes_fewer _ _ (codes ": bad field " ++ decimal c.args.field) (codes " in row " ++ decimal c.args.row) _
    c.from_residual.result c.from_residual.ensures.0 cut)
