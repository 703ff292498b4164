use Rattle.std.proofs.Common.{◌≡◌, map, take}
use Rattle.tilt_live_state.specs.State.{waiting_of}
use Rattle.tilt_live_run.proofs.inputs.kept_inputs.Given as goal

abbrev pub invariant-loop-input : goal.invariant-loop-input
invariant-loop-input l = l.kept.items ≡ map waiting_of (take l.input-index l.inputs)
