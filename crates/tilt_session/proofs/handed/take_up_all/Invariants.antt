use Rattle.std.proofs.Common.{◌≡◌, ◌++◌, drop, take, length}
use Rattle.std.specs.List.{AllByRecursion}
use Rattle.tilt_stream.specs.Snap.{AreRows}
use Rattle.tilt_session.specs.Handed.{AreAfter, all_taken_up}
use Rattle.tilt_session.proofs.handed.take_up_all.Given as goal

abbrev pub invariant-loop-i : goal.invariant-loop-i
invariant-loop-i l = record {
  taken : take l.i l.series.items ++ all_taken_up (drop l.i l.series.items) (drop l.i l.new) ≡ all_taken_up l.fn.series.items l.new;
  after : AreAfter (drop l.i l.series.items) (drop l.i l.new);
  counted : length l.series.items ≡ length l.new;
  in_order : AllByRecursion AreRows (drop l.i l.new) → AllByRecursion AreRows l.new;
}
