use Rattle.std.proofs.Common.{◌∙◌}
use Rattle.tilt_live_run.proofs.Stepping.{line-back, line-front, line-room}
use Rattle.tilt_live_run.proofs.live_run.split_line.Goals as goal

pub split_at-requires : goal.split_at-requires
split_at-requires c = line-room c.args.bytes.now c.in_ok-line.line.now c.in_ok-line.field-0-1.now c.in_ok-line.ensures

pub returns : goal.returns
returns c =
    let found = c.in_ok-line.ensures in
    let back = c.split_at.ensures.back ∙ line-back c.args.bytes.now c.in_ok-line.line.now c.in_ok-line.field-0-1.now found in
    (c.in_ok-line.line.now, rw back found, c.split_at.ensures.front ∙ line-front c.args.bytes.now c.in_ok-line.line.now c.in_ok-line.field-0-1.now found)
