use Rattle.std.proofs.Common.{◌≡◌, ◌++◌, drop, map}
use Rattle.tilt_syntax.specs.Tree.{statement_tree}
use Rattle.tilt_unit_text.specs.Named.{whole_statements}
use Rattle.tilt_unit_text.proofs.whole.whole_statements.Given as goal

-- the statements so far, with those that are left, are all of them
abbrev pub invariant-loop-statement : goal.invariant-loop-statement
invariant-loop-statement l =
    map statement_tree l.whole.items ++ whole_statements (map statement_tree (drop l.statement-index l.statements)) l.rest
    ≡ whole_statements (map statement_tree l.statements) l.defs
