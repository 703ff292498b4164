use Rattle.std.proofs.Common.{◌≡◌, drop}
use Rattle.tilt_reading_options.specs.Parts.{has_name}
use Rattle.tilt_reading_options.proofs.named.has_name.Given as goal

abbrev pub invariant-loop-at : goal.invariant-loop-at
invariant-loop-at g l = has_name g.N.Named.name_of (drop l.at l.items) l.name ≡ has_name g.N.Named.name_of l.fn.items l.fn.name
