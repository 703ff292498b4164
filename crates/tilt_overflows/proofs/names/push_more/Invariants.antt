use Rattle.std.proofs.Common.{◌≡◌, ◌++◌}
use Rattle.tilt_overflows.proofs.names.push_more.Given as goal
use Rattle.tilt_overflows.specs.Watching.{more_names}

abbrev pub invariant-loop-before : goal.invariant-loop-before
invariant-loop-before l = l.all.items ≡ l.fn.all.items ++ more_names l.bytes l.before
