use Rattle.std.proofs.Common.{◌≡◌, ◌++◌, drop}
use Rattle.std.specs.List.{AllByRecursion}
use Rattle.tilt_stream.specs.Snap.{AreRows}
use Rattle.tilt_session.specs.Handed.{AreCells, kept_at}
use Rattle.tilt_session.proofs.handed.keep.Given as goal

abbrev pub invariant-loop-i : goal.invariant-loop-i
invariant-loop-i l = record {
  joined : l.series.items ++ kept_at l.first (drop l.i l.cuts) (drop l.i l.handed.ends.items) (drop l.i l.handed.rows.items)
      ≡ kept_at l.first l.cuts l.handed.ends.items l.handed.rows.items;
  cells : AllByRecursion (λ k. AreCells k.rows) l.series.items;
  in_order : AllByRecursion AreRows (drop l.i l.handed.rows.items) → AllByRecursion AreRows l.handed.rows.items;
}
