-- What is left is read as all inputs are.
use Rattle.std.proofs.Common.{◌≡◌, ◌-◌, []}
use Rattle.tilt_checkpoint.specs.Reading.{times}
use Rattle.tilt_reading_state.specs.Reading.{input_at, with_one}
use Rattle.tilt_reading_state.proofs.inputs.read_inputs.Given as goal

abbrev pub invariant-loop : goal.invariant-loop
invariant-loop l =
    times (with_one input_at) (l.count - l.counter) (l.inputs.items, l.reader) ≡ times (with_one input_at) l.count ([], l.fn.reader)
