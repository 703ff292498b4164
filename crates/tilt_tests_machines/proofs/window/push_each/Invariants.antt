use Rattle.std.proofs.Common.{◌≡◌, ◌++◌, take}
use Rattle.tilt_tests_machines.proofs.window.push_each.Given as goal

abbrev pub invariant-loop-cell : goal.invariant-loop-cell
invariant-loop-cell g l = g.W.Window.cells l.window ≡ g.W.Window.cells l.fn.window ++ take l.cell-index l.cells
