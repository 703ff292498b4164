use Rattle.std.proofs.Common.{drop}
use Rattle.tilt_window.specs.Stacked.{AreStatesFromEach}
use Rattle.tilt_window.proofs.turn.put_states.Given as goal

-- the cells from the counter on have their states
abbrev pub invariant-loop-index : goal.invariant-loop-index
invariant-loop-index g l = AreStatesFromEach g.R.Reduction.Holds l.states.items (drop l.index l.cells.items)
