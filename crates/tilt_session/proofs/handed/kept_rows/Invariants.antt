use Rattle.std.proofs.Common.{◌≡◌, ◌++◌, drop, neg_ℤ}
use Rattle.std.specs.Option.{ForSome}
use Rattle.tilt_base.specs.declared.limits.TheConstants.{T}
use Rattle.tilt_stream.specs.Snap.{InOrder, last_end}
use Rattle.tilt_session.specs.Handed.{AreCells}
use Rattle.tilt_stream.specs.Pieces.{kept}
use Rattle.tilt_session.proofs.handed.kept_rows.Given as goal

abbrev pub invariant-loop-row : goal.invariant-loop-row
invariant-loop-row l = record {
  joined : l.rows ++ kept l.first (drop l.row-index l.row-items) ≡ kept l.first l.all;
  cells : AreCells l.rows;
  after : ForSome (last_end l.rows) (λ end. InOrder end T (drop l.row-index l.row-items));
  rest : InOrder (neg_ℤ T) T (drop l.row-index l.row-items);
}
