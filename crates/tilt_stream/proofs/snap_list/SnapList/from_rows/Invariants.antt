use Rattle.std.proofs.Common.{◌≡◌, ◌++◌, drop, None, neg_ℤ}
use Rattle.std.specs.Option.{ForSome}
use Rattle.tilt_base.specs.declared.limits.TheConstants.{T}
use Rattle.tilt_stream.specs.Snap.{InOrder, last_end}
use Rattle.tilt_stream.proofs.Filled.{filled_behind}
use Rattle.tilt_stream.proofs.snap_list.SnapList.from_rows.Given as goal

abbrev pub invariant-loop-row : goal.invariant-loop-row
invariant-loop-row l = record {
  filled : l.list ++ filled_behind (last_end l.list) (drop l.row-index l.row-items) ≡ filled_behind None l.rows;
  behind : ForSome (last_end l.list) (λ end. InOrder end T (drop l.row-index l.row-items));
  rest : InOrder (neg_ℤ T) T (drop l.row-index l.row-items);
}
