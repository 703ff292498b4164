use Rattle.std.proofs.Common.{◌≡◌, map, take}
use Rattle.tilt_reading_options.specs.Scales.{input_with}
use Rattle.tilt_reading_options.proofs.form.make_sources.Given as goal

abbrev pub invariant-loop-at : goal.invariant-loop-at
invariant-loop-at l = l.sources.items ≡ map (input_with l.scales) (take l.at l.inputs)
