use Rattle.std.proofs.Common.{◌≡◌, drop, map}
use Rattle.tilt_syntax.specs.Tree.{statement_tree}
use Rattle.tilt_unit_text.specs.Units.{large_fault}
use Rattle.tilt_unit_text.proofs.whole.large_fault.Given as goal

abbrev pub invariant-loop-def : goal.invariant-loop-def
invariant-loop-def l = record {
  count : l.definition ≡ l.def-index;
  whole : large_fault (map statement_tree l.statements) l.definition (drop l.def-index l.defs)
      ≡ large_fault (map statement_tree l.statements) 0 l.defs;
}
