use Rattle.std.proofs.Common.{◌≡◌, drop}
use Rattle.tilt_reading_options.specs.Conventions.{convention_among}
use Rattle.tilt_reading_options.proofs.conventions.find_among.Given as goal

abbrev pub invariant-loop-at : goal.invariant-loop-at
invariant-loop-at l = convention_among l.others (drop l.at l.named) l.name ≡ convention_among l.fn.others l.fn.named l.fn.name
