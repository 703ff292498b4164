use Rattle.std.proofs.Common.{◌≡◌, drop}
use Rattle.tilt_load.specs.Inputs.{file_of}
use Rattle.tilt_cli.specs.Binding.{bindings_of}
use Rattle.tilt_load.proofs.binds.file_bound.Given as goal

abbrev pub invariant-loop-bind : goal.invariant-loop-bind
invariant-loop-bind l = file_of (bindings_of (drop l.bind-index l.binds)) l.name ≡ file_of (bindings_of l.binds) l.name
