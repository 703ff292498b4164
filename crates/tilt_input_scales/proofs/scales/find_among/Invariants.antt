use Rattle.std.proofs.Common.{◌≡◌, drop}
use Rattle.tilt_input_scales.specs.Scales.{scale_among}
use Rattle.tilt_input_scales.proofs.scales.find_among.Given as goal

abbrev pub invariant-loop-at : goal.invariant-loop-at
invariant-loop-at l = scale_among l.others (drop l.at l.named) l.name ≡ scale_among l.fn.others l.fn.named l.fn.name
