use Rattle.std.proofs.Common.{◌≡◌}
use Rattle.tilt_core.specs.CoreTree.{tree_of}
use Rattle.tilt_overflows.proofs.watching.some_of.Given as goal
use Rattle.tilt_overflows.specs.Watching.{some_of}

abbrev pub invariant-loop-before : goal.invariant-loop-before
invariant-loop-before l = tree_of l.tree ≡ some_of l.first l.before
