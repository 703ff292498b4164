use Rattle.std.proofs.Common.{◌≡◌, drop}
use Rattle.tilt_load.specs.InputCuts.{cut_named}
use Rattle.tilt_cli.specs.Upto.{cut_bindings_of}
use Rattle.tilt_load.proofs.cuts.cut_named.Given as goal

abbrev pub invariant-loop-bind : goal.invariant-loop-bind
invariant-loop-bind l = cut_named (cut_bindings_of (drop l.bind-index l.binds)) l.name ≡ cut_named (cut_bindings_of l.binds) l.name
