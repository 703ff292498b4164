use Rattle.std.proofs.Common.{◌≡◌, take}
use Rattle.tilt_pipe.proofs.input.share_inputs.Given as goal

abbrev pub invariant-loop-input : goal.invariant-loop-input
invariant-loop-input l = l.shared.items ≡ take l.input-index l.inputs
