use Rattle.std.proofs.Common.{◌≡◌, map, take}
use Rattle.tilt_load.specs.InputCuts.{cut_named}
use Rattle.tilt_cli.specs.Upto.{cut_bindings_of}
use Rattle.tilt_load.proofs.cuts.cuts_named.Given as goal

abbrev pub invariant-loop-input : goal.invariant-loop-input
invariant-loop-input l = l.each.items ≡ map (cut_named (cut_bindings_of l.binds)) (take l.input-index l.inputs)
