-- The lines so far are those of the inputs so far.
use Rattle.std.proofs.Common.{◌≡◌, ◌++◌, take, flat_map}
use Rattle.tilt_reading_state.specs.Spelling.{input_line}
use Rattle.tilt_reading_state.proofs.encoder.put_inputs.Given as goal

abbrev pub invariant-loop-input : goal.invariant-loop-input
invariant-loop-input l = l.text.items ≡ l.fn.text.items ++ flat_map input_line (take l.input-index l.inputs)
