use Rattle.std.proofs.Common.{◌≡◌, ◌++◌, drop, length, map}
use Rattle.std.specs.List.{AllByRecursion}
use Rattle.tilt_bounds.specs.Margins.{need_of}
use Rattle.tilt_fix.specs.Window.{windows}
use Rattle.tilt_stream.specs.Snap.{AreRows}
use Rattle.tilt_fix.proofs.window.push_windows.Given as goal

abbrev pub invariant-loop-each : goal.invariant-loop-each
invariant-loop-each l = record {
  joined : l.list.items ++ windows (map need_of l.needs) l.on.start l.on.end (length l.list.items) (drop l.each-index l.rows)
      ≡ l.fn.list.items ++ windows (map need_of l.needs) l.on.start l.on.end (length l.fn.list.items) l.rows;
  in_order : AllByRecursion AreRows (drop l.each-index l.rows) → AllByRecursion AreRows l.rows;
}
