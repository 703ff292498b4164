use Rattle.std.proofs.Common.{◌≤◌, ◌+◌, List, ◌++◌, length, map, vec_len}
use Rattle.tilt_syntax.specs.Query.{AreGood, AreSound, FirstFault, kinds, statements}
use Rattle.tilt_syntax.specs.Tree.{StatementTree, statement_tree}
use Rattle.tilt_syntax.specs.declared.fault.SyntaxFault.{SyntaxFault}
use Rattle.tilt_syntax.proofs.parser.good_statements.Given as goal

-- what holds of the rest holds of all, with what was read before it
abbrev pub invariant-loop-rest : goal.invariant-loop-rest
invariant-loop-rest l = record {
  sound : AreSound (kinds l.rest);
  few : vec_len l.read + length (statements (kinds l.rest)) ≤ 256;
  good : (others : List StatementTree) → AreGood (statements (kinds l.rest)) others
      → AreGood (statements (kinds l.tokens)) (map statement_tree l.read.items ++ others);
  faulty : (fault : SyntaxFault) → FirstFault (vec_len l.read + 1) (statements (kinds l.rest)) fault
      → FirstFault 1 (statements (kinds l.tokens)) fault;
}

abbrev pub decreases-loop-rest : goal.decreases-loop-rest
decreases-loop-rest l = length l.rest
