use Rattle.std.proofs.Common.{◌≡◌, ◌++◌, drop, map}
use Rattle.tilt_syntax.specs.Tree.{Input, statement_tree}
use Rattle.tilt_operators.proofs.desugaring.push_inputs.Given as goal

abbrev pub invariant-loop-name : goal.invariant-loop-name
invariant-loop-name l =
    map statement_tree l.statements.items ++ map Input (drop l.name-index l.names) ≡ map statement_tree l.initial.statements.items ++ map Input l.names
