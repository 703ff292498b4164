use Rattle.std.proofs.Common.{◌≡◌, ◌++◌}
use Rattle.std.specs.Vec.Iter.{into_iter_items}
use Rattle.tilt_pipe.proofs.input.share_rows.Given as goal

abbrev pub invariant-loop-each : goal.invariant-loop-each
invariant-loop-each l = (l.inputs.items ≡ l.yielded) × (l.fn.rows.items ≡ l.yielded ++ into_iter_items l.each-iterator)
