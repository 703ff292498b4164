use Rattle.std.proofs.Common.{◌≡◌, Some, rules}
use Rattle.tilt_base.specs.Number.{cell_spelled}
use Rattle.tilt_feed_line.specs.Quick.{update_said}
use Rattle.tilt_feed_line.proofs.AtOnce.{update_read_at_once}
use Rattle.tilt_feed_line.proofs.quick.read_update.Goals as goal

pub returns : goal.returns
returns c =
    let start = c.in_ok-start.start in
    let end = c.in_ok-end.end in
    let value = c.in_ok-value.value in
    let said = c.in_ok-update.update in
    let spelled : cell_spelled c.in_ok-end.rest.now ≡ Some value = search rules in
    let is : update_said start end value ≡ Some said = search rules in
    update_read_at_once c.args.inputs.now c.args.bytes.now c.in_ok-name.name.now c.in_ok-name.rest.now c.in_ok-start.rest.now
    c.in_ok-end.rest.now c.in_ok-input.input start end value said c.in_ok-name.ensures c.in_ok-input.ensures.1 c.in_ok-input.ensures.0
    c.in_ok-start.ensures c.in_ok-end.ensures spelled is
