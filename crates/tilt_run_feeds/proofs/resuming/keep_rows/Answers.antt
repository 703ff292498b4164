use Rattle.std.proofs.Common.{neg_ℤ, subst, sym}
use Rattle.tilt_base.specs.declared.limits.TheConstants.{T}
use Rattle.tilt_engine.proofs.Fed.{rows-order}
use Rattle.tilt_feed.proofs.Ordered.{order-raised}
use Rattle.tilt_stream.specs.Snap.{AreRows}
use Rattle.tilt_run_feeds.proofs.resuming.keep_rows.Goals as goal

pub append-requires-clause-rows : goal.append-requires-clause-rows
append-requires-clause-rows c =
    let input = c.args.input.now in
    let order = c.rows.ensures.order in
    subst AreRows (sym c.rows.ensures.rows) (order-raised (neg_ℤ T) input.edge.watermark T input.rows order.high (rows-order input order))
