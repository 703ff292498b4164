use Rattle.std.proofs.Common.{◌≡◌, ◌++◌}
use Rattle.std.specs.Vec.Iter.{into_iter_items}
use Rattle.tilt_pipe.proofs.input.take_rows.Given as goal

abbrev pub invariant-loop-input : goal.invariant-loop-input
invariant-loop-input l = (l.rows.items ≡ l.yielded) × (l.fn.inputs.items ≡ l.yielded ++ into_iter_items l.input-iterator)
