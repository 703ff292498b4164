use Rattle.std.proofs.Common.{◌≡◌, ◌++◌, drop, map}
use Rattle.std.specs.List.{AllByRecursion}
use Rattle.tilt_lexer.specs.Word.{IsWord}
use Rattle.tilt_syntax.specs.Tree.{statement_tree}
use Rattle.tilt_types.specs.Checked.{input_names}
use Rattle.tilt_types.proofs.builder.input_names.Given as goal

abbrev pub invariant-loop-statement : goal.invariant-loop-statement
invariant-loop-statement l = record {
  so_far : l.names.items ++ input_names (map statement_tree (drop l.statement-index l.statements)) ≡ input_names (map statement_tree l.statements);
  words : AllByRecursion IsWord l.names.items;
}
