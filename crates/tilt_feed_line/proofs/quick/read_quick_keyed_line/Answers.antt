use Rattle.std.proofs.Common.{◌≡◌, Some, true, rules}
use Rattle.tilt_feed_line.specs.Plain.{is_plain, without_return}
use Rattle.tilt_text.specs.Cut.{until_at}
use Rattle.tilt_feed_line.proofs.AtOnce.{keyed_read_at_once}
use Rattle.tilt_feed_line.proofs.quick.read_quick_keyed_line.Goals as goal

pub returns : goal.returns
returns c =
    let key = c.in_ok-key.key.now in
    let rest = c.in_ok-key.rest.now in
    let cut : until_at 44 (without_return c.args.line.now) ≡ Some (key, rest) = rw c.without_return.ensures at c.in_ok-key.ensures in
    let plain : is_plain key ≡ true = search rules in
    rw c.in_ok-key-2.ensures (keyed_read_at_once c.args.inputs.now c.args.line.now key rest c.in_ok-line.line cut plain c.in_ok-line.ensures)
