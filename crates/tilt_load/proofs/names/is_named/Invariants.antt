use Rattle.std.proofs.Common.{◌≡◌, drop, map}
use Rattle.tilt_load.specs.Inputs.{is_among}
use Rattle.tilt_load.proofs.names.is_named.Given as goal

abbrev pub invariant-loop-item : goal.invariant-loop-item
invariant-loop-item g l = is_among l.name (map g.N.Named.named (drop l.item-index l.given)) ≡ is_among l.name (map g.N.Named.named l.given)
