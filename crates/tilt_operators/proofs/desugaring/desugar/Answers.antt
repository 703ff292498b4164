use Rattle.std.proofs.Common.{◌≡◌, ◌++◌, ◌∷◌, [], None, length, map, ap, ◌∙◌}
use Rattle.tilt_syntax.specs.Tree.{Emit, Input, statement_tree}
use Rattle.tilt_operators.specs.Desugared.{reading, source_name, step_definitions}
use Rattle.tilt_operators.specs.Inputs.{inputs_of}
use Rattle.tilt_operators.proofs.Negated.{composed, last-name, negatable}
use Rattle.tilt_operators.proofs.Written.{written}
use Rattle.tilt_operators.proofs.desugaring.desugar.Goals as goal

pub push_definitions-requires : goal.push_definitions-requires
push_definitions-requires c = rw c.steps.ensures.trees (negatable c.args.flow.now c.steps.ensures.read)

pub new-requires : goal.new-requires
new-requires c =
    let flow = c.args.flow.now in
    let none : map statement_tree c.new-statements.result.items ≡ [] = ap (map statement_tree) c.new-statements.ensures.items in
    let names : c.deref.result.now ≡ inputs_of flow = c.deref.ensures.value ∙ c.in_ok-names.ensures in
    let inputs : map statement_tree c.push_inputs.new.statements.items ≡ map Input (inputs_of flow) =
    rw (none, names) at c.in_ok-push_inputs.ensures in
    let trees = c.steps.ensures.trees in
    let first = c.first.ensures.name in
    let defs : map statement_tree c.push_definitions.new.statements.items
    ≡ map statement_tree c.push_inputs.new.statements.items ++ step_definitions flow.first 0 flow.steps =
    rw (trees, first) at c.in_ok-last.ensures.definitions in
    let last : c.in_ok-last.last ≡ source_name flow.first (length flow.steps) = c.in_ok-last.ensures.last ∙ last-name c.first.result.now flow.first c.steps.result.now flow.steps first trees in
    let over = c.domain.ensures in
    let made : map statement_tree c.push_emit.new.statements.items
    ≡ map statement_tree c.push_definitions.new.statements.items
    ++ Emit (reading (source_name flow.first (length flow.steps))) flow.domain None ∷ [] =
    rw (last, over) at c.in_ok-push_emit.ensures in
    rw (composed flow _ _ _ inputs defs made) (written flow c.steps.ensures.read)
