use Rattle.std.proofs.Common.{map}
use Rattle.tilt_base.specs.Reduce.{numbers}
use Rattle.tilt_window.proofs.refold.RefoldWindow.result.Given as goal

-- the state is that of the numbers among the cells so far
abbrev pub invariant-loop-cell : goal.invariant-loop-cell
invariant-loop-cell g l = g.R.Reduction.Holds l.state (numbers (map (λ cell. cell.now) l.yielded))
