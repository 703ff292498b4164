use Rattle.std.proofs.Common.{take}
use Rattle.tilt_tests_machines.proofs.reduce.answer.Given as goal

abbrev pub invariant-loop-number : goal.invariant-loop-number
invariant-loop-number g l = g.R.Reduction.Holds l.state (take l.number-index l.numbers)
