use Rattle.std.proofs.Common.{◌≡◌, ◌++◌, drop}
use Rattle.tilt_units.specs.Translation.{input_quantities}
use Rattle.tilt_units.proofs.translated.input_quantities.Given as goal

-- those so far, with those that are left, are all of them
abbrev pub invariant-loop-scale : goal.invariant-loop-scale
invariant-loop-scale l = l.quantities.items ++ input_quantities (drop l.scale-index l.scales) ≡ input_quantities l.scales
