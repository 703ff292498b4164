use Rattle.std.proofs.Common.{◌≡◌, drop}
use Rattle.tilt_types.specs.Types.{type_declared}
use Rattle.tilt_types.proofs.types.type_declared.Given as goal

abbrev pub invariant-loop-one : goal.invariant-loop-one
invariant-loop-one l = type_declared (drop l.one-index l.declared) l.name ≡ type_declared l.declared l.name
