use Rattle.std.proofs.Common.{length, ap, arith}
use Rattle.std.proofs.lemmas.List.{length-map}
use Rattle.tilt_syntax.specs.Tree.{statement_tree}
use Rattle.tilt_types.proofs.Texts.{query-few}
use Rattle.tilt_types.proofs.checker.check.Goals as goal

pub first_fault-requires : goal.first_fault-requires
first_fault-requires c =
    let trees = ap length c.statements-statements.ensures.trees in
    omega (arith, query-few c.args.query.now c.statements-statements.ensures.parsed, trees, length-map c.statements-statements.result.now statement_tree)
