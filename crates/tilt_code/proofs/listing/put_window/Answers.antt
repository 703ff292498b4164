use Rattle.std.proofs.Common.{arith, append_assoc, ℕ}
use Rattle.std.proofs.lemmas.Grind.{common_steps}
use Rattle.std.proofs.lemmas.Int.{to_z-of_z}
use Rattle.std.specs.Int.{w64}
use Rattle.tilt_code.proofs.listing.put_window.Goals as goal

pub returns : goal.returns
returns c =
    let from = to_z-of_z w64 c.args.from c.ranges.from in
    let to = to_z-of_z w64 c.args.to c.ranges.to in
    grind (arith, common_steps, append_assoc {A = ℕ})
