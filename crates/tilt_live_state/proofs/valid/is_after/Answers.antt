use Rattle.std.proofs.Common.{◌∙◌, ap}
use Rattle.tilt_live_state.specs.Reading.{edge_follows}
use Rattle.tilt_live_state.proofs.Checks.{edge-follows}
use Rattle.tilt_live_state.proofs.valid.is_after.Goals as goal

pub returns : goal.returns
returns c =
    let edge = c.args.edge in
    c.edge_follows.ensures
    ∙ ap (λ o. edge_follows o edge.watermark edge.open_row) c.last_end.ensures.value
    ∙ edge-follows c.args.rows.now edge.watermark edge.open_row c.as_slice-known.ensures.in_order
