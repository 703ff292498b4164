use Rattle.std.proofs.Common.{◌≤◌, arith, length}
use Rattle.tilt_exactly_once.proofs.Recently.{counted-all}
use Rattle.tilt_exactly_once.proofs.keeper.count_lines.Goals as goal

pub returns : goal.returns
returns c =
    let over : length c.args.piece.now ≤ c.loop-byte.byte-index = omega (arith, c.loop-byte-test.false, c.loop-byte.auto.byte-index-end) in
    counted-all c.args.piece.now c.loop-byte.byte-index c.loop-byte.count over c.loop-byte.invariant.low c.loop-byte.invariant.rest
