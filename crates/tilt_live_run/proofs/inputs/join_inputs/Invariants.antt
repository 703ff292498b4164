use Rattle.std.proofs.Common.{◌≡◌, ◌++◌, drop, length}
use Rattle.tilt_live_run.specs.Joined.{joined}
use Rattle.tilt_live_run.proofs.inputs.join_inputs.Given as goal

abbrev pub invariant-loop-input : goal.invariant-loop-input
invariant-loop-input l = record {
  joined : l.inputs.items ++ joined l.input-index l.known (drop l.input-index l.kept) ≡ joined 0 l.known l.kept;
  many : length l.inputs.items ≡ l.input-index;
}
