use Rattle.std.proofs.Common.{neg_ℤ, ◌+◌, drop, ◌∷◌, None}
use Rattle.tilt_base.proofs.Lists.{drop-at}
use Rattle.tilt_base.specs.declared.limits.TheConstants.{T}
use Rattle.tilt_stream.specs.Snap.{InOrder}
use Rattle.tilt_stream.proofs.Order.{InOrder-rest, last_end-after_push}
use Rattle.tilt_stream.proofs.Filled.{filled_behind, filled-step, filled-all, stream-filled}
use Rattle.tilt_stream.proofs.snap_list.SnapList.from_rows.Goals as goal

pub push_row-requires-clause-behind : goal.push_row-requires-clause-behind
push_row-requires-clause-behind c =
    λ x is. (rw (drop-at c.as_slice-row-items.result.now c.row-item.result c.loop-row.row-index c.loop-row-test.true c.row-item.is) at (c.loop-row.invariant.behind x is)).0

pub loop-row-preserved : goal.loop-row-preserved
loop-row-preserved c =
    let row = c.row-item.result in
    let rest = drop (c.loop-row.row-index + 1) c.as_slice-row-items.result.now in
    let at = drop-at c.as_slice-row-items.result.now row c.loop-row.row-index c.loop-row-test.true c.row-item.is in
    let in_order : InOrder (neg_ℤ T) T (row ∷ rest) = rw at at c.loop-row.invariant.rest in
    let new = c.in_ok-push_row.ensures in
    record {
      filled = rw new (filled-step c.loop-row.list rest (filled_behind None c.args.rows.now) row (rw at at c.loop-row.invariant.filled));
      behind = λ x is. rw (last_end-after_push _ _ row x new is) in_order.3;
      rest = InOrder-rest (neg_ℤ T) T row rest in_order;
    }

pub returns : goal.returns
returns c =
    let rows = c.as_slice-row-items.result.now in
    record {
      stream = rw (filled-all c.loop-row.list (filled_behind None c.args.rows.now) c.loop-row.row-index rows c.loop-row-test.false c.loop-row.invariant.filled)
          (stream-filled c.args.rows.now c.as_slice-row-items.ensures.in_order);
    }
