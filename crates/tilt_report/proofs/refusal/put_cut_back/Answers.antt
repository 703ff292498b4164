use Rattle.std.proofs.Common.{◌++◌, codes, append_assoc, arith}
use Rattle.std.proofs.lemmas.Int.{to_z-of_z}
use Rattle.std.specs.Fmt.{signed_decimal}
use Rattle.std.specs.Prelude.{FitsSigned}
use Rattle.std.specs.Int.{w64, w128}
use Rattle.tilt_outside.proofs.Puts.{puts-then, puts-short}
use Rattle.tilt_report.proofs.refusal.put_cut_back.Goals as goal

pub returns-in_err-put_signed : goal.returns-in_err-put_signed
returns-in_err-put_signed g c =
    let front = codes "51 cut back from " ++ signed_decimal c.args.old in
    let wide : FitsSigned w128 c.args.old = record { sfits = omega (arith, c.ranges.old.sfits) } in
    let cut = rw (c.from.ensures, to_z-of_z w64 c.args.old c.ranges.old, to_z-of_z w128 c.args.old wide) at c.in_err-put_signed.ensures in
    rw (append_assoc front (codes " to ") (signed_decimal c.args.new))
    (puts-short _ _ _ _ g.met.E.Sink.takes_fewer _ _ front (codes " to " ++ signed_decimal c.args.new) _ c.from_residual.result c.from_residual.ensures.0 cut)

pub returns : goal.returns
returns g c =
    let front = codes "51 cut back from " ++ signed_decimal c.args.old in
    let wide : FitsSigned w128 c.args.old = record { sfits = omega (arith, c.ranges.old.sfits) } in
    let wide_new : FitsSigned w128 c.args.new = record { sfits = omega (arith, c.ranges.new.sfits) } in
    let first = rw (c.from.ensures, to_z-of_z w64 c.args.old c.ranges.old, to_z-of_z w128 c.args.old wide) at c.in_ok-put_signed.ensures in
    let second = rw (c.from-2.ensures, to_z-of_z w64 c.args.new c.ranges.new, to_z-of_z w128 c.args.new wide_new) at c.put_signed-2.ensures in
    rw (append_assoc front (codes " to ") (signed_decimal c.args.new)) (puts-then _ _ _ _ _ _ _ front (codes " to " ++ signed_decimal c.args.new) _ first second)
