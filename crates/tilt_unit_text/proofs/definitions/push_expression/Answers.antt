use Rattle.std.proofs.Common.{◌++◌, List, ap, map}
use Rattle.tilt_syntax.specs.Tree.{expr_tree}
use Rattle.tilt_units.specs.Translation.{UnitDefinition, unit_definition}
use Rattle.tilt_unit_text.proofs.Frames.{no_definition}
use Rattle.tilt_unit_text.proofs.definitions.push_expression.Goals as goal

pub returns-in-None : goal.returns-in-None
returns-in-None c = λ more.
    ap (λ (ds : List UnitDefinition). map unit_definition c.args.units.now.items ++ ds)
    (no_definition c.args.names.now c.args.numbers.now (expr_tree c.args.expr.now) more c.args.defs.now c.in-None.ensures.cases)
