use Rattle.std.proofs.Common.{◌≡◌, ◌++◌, drop, map}
use Rattle.tilt_syntax.specs.Tree.{statement_tree}
use Rattle.tilt_units.specs.Translation.{unit_definition}
use Rattle.tilt_unit_text.specs.Units.{unit_definitions}
use Rattle.tilt_unit_text.proofs.definitions.unit_definitions.Given as goal

-- the definitions so far, with those that are left, are all of them
abbrev pub invariant-loop-statement : goal.invariant-loop-statement
invariant-loop-statement l =
    map unit_definition l.units.items ++ unit_definitions l.names l.numbers (map statement_tree (drop l.statement-index l.statements)) l.rest
    ≡ unit_definitions l.names l.numbers (map statement_tree l.statements) l.defs
