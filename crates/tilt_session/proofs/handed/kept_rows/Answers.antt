use Rattle.std.proofs.Common.{neg_ℤ, ◌+◌, drop, ◌∷◌, of_z, to_z, w64}
use Rattle.tilt_base.proofs.Lists.{drop-at}
use Rattle.tilt_base.specs.declared.limits.TheConstants.{T}
use Rattle.tilt_stream.proofs.Pieces.{kept-step, kept-behind}
use Rattle.tilt_stream.specs.Snap.{InOrder}
use Rattle.tilt_stream.proofs.Order.{InOrder-rest}
use Rattle.tilt_session.proofs.Parted.{kept-cells}
use Rattle.tilt_session.proofs.handed.kept_rows.Goals as goal

pub keep_row-requires-clause-after : goal.keep_row-requires-clause-after
keep_row-requires-clause-after c =
    λ x is. (rw (drop-at c.as_slice-row-items.result.now c.row-item.result c.loop-row.row-index c.loop-row-test.true c.row-item.is) at (c.loop-row.invariant.after x is)).0

pub loop-row-preserved : goal.loop-row-preserved
loop-row-preserved c =
    let row = c.row-item.result in
    let rest = drop (c.loop-row.row-index + 1) c.as_slice-row-items.result.now in
    let at = drop-at c.as_slice-row-items.result.now row c.loop-row.row-index c.loop-row-test.true c.row-item.is in
    let in_order : InOrder (neg_ℤ T) T (row ∷ rest) = rw at at c.loop-row.invariant.rest in
    let new = c.in_ok-keep_row.ensures.all in
    let first = to_z w64 (of_z w64 c.args.first) in
    record {
      joined = rw new (kept-step first c.loop-row.rows _ rest row (rw at at c.loop-row.invariant.joined));
      cells = rw new (kept-cells first c.loop-row.rows row c.loop-row.invariant.cells c.in_ok-keep_row.ensures.cell);
      after = rw new (kept-behind first (neg_ℤ T) c.loop-row.rows rest row (rw at at c.loop-row.invariant.after) in_order);
      rest = InOrder-rest (neg_ℤ T) T row rest in_order;
    }
