use Rattle.std.proofs.Common.{◌≡◌, drop}
use Rattle.tilt_reading_options.specs.Parts.{has_name}
use Rattle.tilt_unit_check.specs.BoundText.{bound_name}
use Rattle.tilt_unit_check.proofs.bound_text.has_bound.Given as goal

abbrev pub invariant-loop-at : goal.invariant-loop-at
invariant-loop-at l = has_name bound_name (drop l.at l.bounds) l.name ≡ has_name bound_name l.fn.bounds l.fn.name
