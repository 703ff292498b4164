use Rattle.std.proofs.Common.{ℕ, List}
use Rattle.tilt_load.proofs.InputNames.{IsBehind}
use Rattle.tilt_load.proofs.names.unexpected_name.Given as goal

abbrev pub invariant-loop-place : goal.invariant-loop-place
invariant-loop-place g l = (before : List (List ℕ)) × IsBehind g.N.Named.named l.inputs l.given before l.place
