use Rattle.std.proofs.Common.{◌++◌, codes, append_assoc}
use Rattle.std.proofs.lemmas.Int.{to_z-of_z}
use Rattle.std.specs.Fmt.{signed_decimal}
use Rattle.std.specs.Int.{w128}
use Rattle.tilt_outside.proofs.Puts.{puts-then, puts-short}
use Rattle.tilt_report.proofs.refusal.put_reach.Goals as goal

pub returns-in_err-put_signed : goal.returns-in_err-put_signed
returns-in_err-put_signed g c =
    let front = codes "31 too far: back " ++ signed_decimal c.args.back in
    let cut = rw (to_z-of_z w128 c.args.back c.ranges.back) at c.in_err-put_signed.ensures in
    rw (append_assoc front (codes " ahead ") (signed_decimal c.args.ahead))
    (puts-short _ _ _ _ g.met.E.Sink.takes_fewer _ _ front (codes " ahead " ++ signed_decimal c.args.ahead) _ c.from_residual.result c.from_residual.ensures.0 cut)

pub returns : goal.returns
returns g c =
    let front = codes "31 too far: back " ++ signed_decimal c.args.back in
    let first = rw (to_z-of_z w128 c.args.back c.ranges.back) at c.in_ok-put_signed.ensures in
    let second = rw (to_z-of_z w128 c.args.ahead c.ranges.ahead) at c.put_signed-2.ensures in
    rw (append_assoc front (codes " ahead ") (signed_decimal c.args.ahead)) (puts-then _ _ _ _ _ _ _ front (codes " ahead " ++ signed_decimal c.args.ahead) _ first second)
