use Rattle.std.proofs.Common.{◌++◌, List, ap, map}
use Rattle.tilt_syntax.specs.Tree.{StatementTree, statement_tree}
use Rattle.tilt_unit_text.proofs.WholeStatements.{left_out}
use Rattle.tilt_unit_text.proofs.whole.push_definition.Goals as goal

pub returns-in-None : goal.returns-in-None
returns-in-None c = λ more.
    ap (λ (ss : List StatementTree). map statement_tree c.args.whole.now.items ++ ss)
    (left_out (statement_tree c.args.statement.now) more c.args.defs.now c.requires c.in-None.ensures.cases)
