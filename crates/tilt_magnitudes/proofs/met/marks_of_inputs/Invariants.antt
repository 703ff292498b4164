use Rattle.std.proofs.Common.{◌≡◌, map, take}
use Rattle.tilt_magnitudes.specs.Marks.{input_marks}
use Rattle.tilt_magnitudes.proofs.met.marks_of_inputs.Given as goal

abbrev pub invariant-loop-rate : goal.invariant-loop-rate
invariant-loop-rate l = l.marks.items ≡ map (input_marks l.ticks) (take l.rate-index l.rates)
