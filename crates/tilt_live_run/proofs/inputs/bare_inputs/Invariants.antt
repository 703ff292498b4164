use Rattle.std.proofs.Common.{◌≡◌, map, take}
use Rattle.tilt_live_run.specs.Joined.{bare}
use Rattle.tilt_live_run.proofs.inputs.bare_inputs.Given as goal

abbrev pub invariant-loop-input : goal.invariant-loop-input
invariant-loop-input l = l.inputs.items ≡ map bare (take l.input-index l.known)
