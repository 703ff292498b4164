use Rattle.std.proofs.Common.{arith}
use Rattle.std.proofs.lemmas.Int.{to_z-of_z}
use Rattle.std.specs.Prelude.{FitsSigned}
use Rattle.std.specs.Int.{w64, w128}
use Rattle.tilt_report.proofs.refusal.put_outside.Goals as goal

pub returns : goal.returns
returns g c =
    let wide : FitsSigned w128 c.args.at = record { sfits = omega (arith, c.ranges.at.sfits) } in
    rw (c.from.ensures, to_z-of_z w64 c.args.at c.ranges.at, to_z-of_z w128 c.args.at wide) at c.put_signed.ensures
