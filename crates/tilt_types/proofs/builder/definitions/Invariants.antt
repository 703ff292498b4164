use Rattle.std.proofs.Common.{◌≡◌, ◌++◌, drop, map}
use Rattle.tilt_syntax.specs.Tree.{statement_tree}
use Rattle.tilt_types.specs.Checked.{definitions}
use Rattle.tilt_types.proofs.builder.definitions.Given as goal

abbrev pub invariant-loop-statement : goal.invariant-loop-statement
invariant-loop-statement l =
    l.defs.items ++ definitions l.sources (map statement_tree (drop l.statement-index l.statements)) ≡ definitions l.sources (map statement_tree l.statements)
