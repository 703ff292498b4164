use Rattle.std.proofs.Common.{◌≡◌, map}
use Rattle.tilt_live_start.specs.Seen.{kept_input}
use Rattle.tilt_live_start.proofs.inputs.kept_inputs.Given as goal

abbrev pub invariant-loop-kept : goal.invariant-loop-kept
invariant-loop-kept l = l.inputs.items ≡ map kept_input l.yielded
