use Rattle.std.proofs.Common.{◌≡◌, drop, map}
use Rattle.tilt_load.specs.Inputs.{first_unbound}
use Rattle.tilt_load.proofs.names.unnamed_input.Given as goal

abbrev pub invariant-loop-place : goal.invariant-loop-place
invariant-loop-place g l =
    first_unbound (map g.N.Named.named l.given) (drop l.place l.inputs) ≡ first_unbound (map g.N.Named.named l.given) l.inputs
