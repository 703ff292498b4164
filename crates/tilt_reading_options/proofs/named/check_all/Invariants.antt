use Rattle.std.proofs.Common.{◌≡◌, drop}
use Rattle.tilt_reading_options.specs.Parts.{first_missing}
use Rattle.tilt_reading_options.proofs.named.check_all.Given as goal

abbrev pub invariant-loop-at : goal.invariant-loop-at
invariant-loop-at g l =
    first_missing g.N.Named.name_of (drop l.at l.items) l.inputs ≡ first_missing g.N.Named.name_of l.fn.items l.fn.inputs
