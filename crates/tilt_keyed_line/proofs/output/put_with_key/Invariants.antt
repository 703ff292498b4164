use Rattle.std.proofs.Common.{◌≡◌, ◌++◌, length}
use Rattle.tilt_keyed_line.specs.Outputs.{with_key}
use Rattle.tilt_keyed_line.proofs.output.put_with_key.Given as goal

abbrev pub invariant-loop-line : goal.invariant-loop-line
invariant-loop-line l = l.text.items ++ with_key l.key l.rest ≡ l.fn.text.items ++ with_key l.fn.key l.fn.output

abbrev pub decreases-loop-line : goal.decreases-loop-line
decreases-loop-line l = length l.rest
