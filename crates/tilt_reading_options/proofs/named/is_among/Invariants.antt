use Rattle.std.proofs.Common.{◌≡◌, drop}
use Rattle.std.specs.List.{list_any}
use Rattle.std.specs.Str.{bytes_eq}
use Rattle.tilt_reading_options.proofs.named.is_among.Given as goal

abbrev pub invariant-loop-at : goal.invariant-loop-at
invariant-loop-at l = list_any (bytes_eq l.name) (drop l.at l.inputs) ≡ list_any (bytes_eq l.fn.name) l.fn.inputs
