use Rattle.std.proofs.Common.{◌≡◌, ◌∙◌, ◌++◌, List, neg_ℤ, ap, of_z, rules, subst, sym, to_z, w64}
use Rattle.tilt_base.specs.declared.limits.TheConstants.{T}
use Rattle.tilt_engine.proofs.Fed.{rows-order}
use Rattle.tilt_feed.proofs.Ordered.{order-raised}
use Rattle.tilt_feed.specs.Resting.{resting_end}
use Rattle.tilt_stream.specs.Snap.{AreRows, Snapshot}
use Rattle.tilt_engine.proofs.inlet.Inlet.of.Goals as goal

pub append-requires-clause-rows : goal.append-requires-clause-rows
append-requires-clause-rows c =
    let input = c.args.input.now in
    let order = c.rows.ensures.order in
    subst AreRows (sym c.rows.ensures.rows) (order-raised (neg_ℤ T) input.edge.watermark T input.rows order.high (rows-order input order))

pub returns : goal.returns
returns c =
    let rows = c.in_ok-append.ensures.ok ∙ ap (λ (front : List Snapshot). front ++ c.rows.result.now) c.new-rows.ensures ∙ c.rows.ensures.rows in
    let edge = c.edge-edge.ensures.edge in
    let same : to_z w64 (of_z w64 c.resting_end.result) ≡ c.resting_end.result = search rules in
    let end = same ∙ c.resting_end.ensures ∙ ap resting_end edge in
    λ k. record { input = record { rows = rows k; edge = edge k }; end = end k }
