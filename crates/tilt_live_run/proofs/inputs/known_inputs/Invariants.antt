use Rattle.std.proofs.Common.{◌≡◌, map, take}
use Rattle.tilt_live_state.specs.State.{feed_of}
use Rattle.tilt_live_run.proofs.inputs.known_inputs.Given as goal

abbrev pub invariant-loop-input : goal.invariant-loop-input
invariant-loop-input l = l.known.items ≡ map feed_of (take l.input-index l.inputs)
