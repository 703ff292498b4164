use Rattle.std.proofs.Common.{arith}
use Rattle.std.proofs.lemmas.Int.{to_z-of_z}
use Rattle.std.specs.Int.{w64}
use Rattle.tilt_feed_line.proofs.AtOnce.{minus_here}
use Rattle.tilt_feed_line.proofs.quick.cell_before.Goals as goal

pub returns-in_ok-number-in-45 : goal.returns-in_ok-number-in-45
returns-in_ok-number-in-45 c =
    let bytes = c.args.bytes.now in
    let found = c.in_ok-number-in-45 in
    rw (to_z-of_z w64 c.negative.result (record { sfits = c.negative.type_inv }), c.negative.ensures)
    (minus_here bytes found.rest.now found.number (grind arith) (grind arith) found.ensures.small found.ensures.value)
