use Rattle.std.proofs.Common.{◌++◌, codes, append_assoc}
use Rattle.std.specs.Fmt.{decimal}
use Rattle.tilt_outside.proofs.Puts.{puts-then, puts-short}
use Rattle.tilt_report.proofs.refusal.put_reference.Goals as goal

pub returns-in_err-put_counted : goal.returns-in_err-put_counted
returns-in_err-put_counted g c =
    let front = codes "41 bad reference in loop " ++ decimal c.args.in_loop in
    rw (append_assoc front (codes ", line ") (decimal c.args.line))
    (puts-short _ _ _ _ g.met.E.Sink.takes_fewer _ _ front (codes ", line " ++ decimal c.args.line) _ c.from_residual.result c.from_residual.ensures.0 c.in_err-put_counted.ensures)

pub returns : goal.returns
returns g c =
    let front = codes "41 bad reference in loop " ++ decimal c.args.in_loop in
    rw (append_assoc front (codes ", line ") (decimal c.args.line)) (puts-then _ _ _ _ _ _ _ front (codes ", line " ++ decimal c.args.line) _ c.in_ok-put_counted.ensures c.put_counted-2.ensures)
