use Rattle.std.proofs.Common.{length, ap, arith}
use Rattle.std.proofs.lemmas.List.{length-map}
use Rattle.tilt_syntax.specs.Tree.{statement_tree}
use Rattle.tilt_types.proofs.Texts.{query-few}
use Rattle.tilt_unit_text.proofs.reading.translate_units.Goals as goal

pub of_scale-requires : goal.of_scale-requires
of_scale-requires c =
    let trees = ap length c.statements.ensures.trees in
    omega (arith, query-few c.args.places.now c.statements.ensures.parsed, trees, length-map c.statements.result.now statement_tree)
